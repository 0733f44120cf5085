use mathlib.Core.Path.{ap, ◌∙◌}
use Rattle.base.specs.Said.{value_or}
use Rattle.table.specs.declared.MBR.{MBR}
use Rattle.table_remove.specs.RemoveAt.{remove_at_says}
use Rattle.abi_word.specs.Packed.{status}
use Rattle.block.specs.Blocks.{block_says}
use Rattle.block.proofs.calls.Laws.{after}
use Rattle.block_remove.specs.AtSectorRemoved.{removed_at_on}
use Rattle.abi_table.proofs.edits.Changed.{removed-at-table}
use Rattle.abi_table.proofs.edits.cv_remove_at_sector.Goals as goal

pub returns : goal.returns
returns c = record {
  said = c.status.ensures ∙ ap status c.remove_at_sector.ensures.said;
  left = c.remove_at_sector.ensures.left;
  table = ap block_says c.remove_at_sector.ensures.left
      ∙ after c.args.b.now (removed_at_on c.args.b.now c.args.sector) (λ (t : MBR). value_or t (remove_at_says t c.args.sector)) (removed-at-table c.args.b.now c.args.sector);
}
