use mathlib.Core.Path.{ap, ◌∙◌}
use Rattle.table.specs.declared.MBR.{MBR}
use Rattle.table_remove.specs.Remove.{removed_table}
use Rattle.abi_word.specs.Packed.{status}
use Rattle.block.specs.Blocks.{block_says}
use Rattle.block.proofs.calls.Laws.{after}
use Rattle.block_remove.specs.ByNumberRemoved.{removed_on}
use Rattle.abi_table.proofs.Changed.{removed-table}
use Rattle.abi_table.proofs.cv_remove.Goals as goal

pub returns : goal.returns
returns c = record {
  said = c.status.ensures ∙ ap status c.remove.ensures.said;
  left = c.remove.ensures.left;
  table = ap block_says c.remove.ensures.left
      ∙ after c.args.b.now (removed_on c.args.b.now c.args.i) (λ (t : MBR). removed_table t c.args.i) (removed-table c.args.b.now c.args.i);
}
