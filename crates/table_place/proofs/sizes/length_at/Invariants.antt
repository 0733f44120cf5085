use Rattle.std.proofs.Common.{◌≡◌}
use lib.ListN.{drop}
use Rattle.table_free.specs.Free.{runs_in}
use Rattle.table_place.specs.Place.{length_at}
use Rattle.table_place.proofs.sizes.length_at.Given as goal

abbrev pub invariant-loop-r : goal.invariant-loop-r
invariant-loop-r l = length_at l.p (runs_in l.fn.x) ≡ length_at l.p (drop l.r-index (runs_in l.fn.x))
