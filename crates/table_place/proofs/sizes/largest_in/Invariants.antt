use Rattle.std.proofs.Common.{◌≡◌}
use lib.ListN.{drop}
use Prim.Native.Nat.{max}
use Rattle.table_free.specs.Free.{runs_in}
use Rattle.table_place.specs.Place.{largest}
use Rattle.table_place.proofs.sizes.largest_in.Given as goal

abbrev pub invariant-loop-r : goal.invariant-loop-r
invariant-loop-r l = largest l.align (runs_in l.fn.x) ≡ max l.most (largest l.align (drop l.r-index (runs_in l.fn.x)))
