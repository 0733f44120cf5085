use mathlib.Core.Path.{sym}
use Rattle.block.proofs.calls.Laws.{passed}
use Rattle.block_lookup.proofs.by_number.get.Goals as goal

pub entry-requires : goal.entry-requires
entry-requires c = passed _ (sym c.in_ok-check.ensures)
