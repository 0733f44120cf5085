use mathlib.Core.Path.{ap, ◌∙◌}
use Rattle.table.specs.declared.MBR.{MBR}
use Rattle.table_push.specs.Push.{push_table}
use Rattle.abi_word.specs.Packed.{packed}
use Rattle.block.specs.Blocks.{block_says}
use Rattle.block.proofs.calls.Laws.{after}
use Rattle.block_push.specs.Pushed.{pushed_on}
use Rattle.abi_table.proofs.Changed.{pushed-table}
use Rattle.abi_table.proofs.cv_push.Goals as goal

pub returns : goal.returns
returns c = record {
  said = c.word.ensures ∙ ap packed c.push.ensures.said;
  left = c.push.ensures.left;
  table = ap block_says c.push.ensures.left
      ∙ after c.args.b.now (pushed_on c.args.b.now c.args.sys c.args.start c.args.sectors) (λ (t : MBR). push_table t c.args.sys c.args.start c.args.sectors)
      (pushed-table c.args.b.now c.args.sys c.args.start c.args.sectors);
}
