use Rattle.std.proofs.Common.{◌≡◌, ◌+◌, ◌≤◌, ◌∷◌, []}
use lib.ListN.{drop}
use Rattle.base.specs.Said.{gives}
use Rattle.table_free.specs.Free.{primary_zones, more, points_in}
use Rattle.table_free.proofs.search.primary_points.Given as goal

abbrev pub invariant-loop-e : goal.invariant-loop-e
invariant-loop-e l =
    record {
      few : l.p.count ≤ 1 + l.e-index + l.e-index;
      said : more (gives (0 ∷ [])) (primary_zones l.fn.entries) ≡ more (gives (points_in l.p)) (primary_zones (drop l.e-index l.fn.entries));
    }
