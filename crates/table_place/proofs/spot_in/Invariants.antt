use Rattle.std.proofs.Common.{◌≡◌}
use Rattle.std.specs.Prelude.{None}
use lib.ListN.{drop}
use Rattle.table_free.specs.Free.{runs_in}
use Rattle.table_place.specs.Place.{preferred, roomy}
use Rattle.table_place.proofs.spot_in.Given as goal

abbrev pub invariant-loop-r : goal.invariant-loop-r
invariant-loop-r l = preferred l.rule None (roomy l.size (runs_in l.fn.x)) ≡ preferred l.rule l.best (roomy l.size (drop l.r-index (runs_in l.fn.x)))
