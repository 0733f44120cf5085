use mathlib.Core.Path.{sym}
use Rattle.block.proofs.calls.Laws.{passed}
use Rattle.block_free.proofs.runs.free_on.Goals as goal

pub free_of-requires : goal.free_of-requires
free_of-requires c = passed c.args.b.now (sym c.in_ok-check.ensures)
