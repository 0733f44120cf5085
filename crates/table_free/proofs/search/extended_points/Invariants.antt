use Rattle.std.proofs.Common.{◌≡◌, ◌+◌, ◌≤◌, ◌∷◌, []}
use lib.ListN.{drop}
use Rattle.base.specs.Said.{gives}
use Rattle.table_free.specs.Free.{logical_zones, more, points_in}
use Rattle.table_free.proofs.search.extended_points.Given as goal

abbrev pub invariant-loop-l : goal.invariant-loop-l
invariant-loop-l l =
    record {
      few : l.p.count ≤ 1 + l.l-index + l.l-index;
      said : more (gives (l.e.starting_lba ∷ [])) (logical_zones l.logicals) ≡ more (gives (points_in l.p)) (logical_zones (drop l.l-index l.logicals));
    }
