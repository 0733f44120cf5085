use mathlib.Core.Path.{sym}
use Rattle.block.proofs.calls.Laws.{passed}
use Rattle.block_lookup.proofs.at_sector.find_at_sector.Goals as goal

pub find-requires : goal.find-requires
find-requires c = passed _ (sym c.in_ok-check.ensures)
