use Rattle.std.proofs.Common.{◌≡◌, ◌+◌, ◌≤◌, ◌∷◌, []}
use lib.ListN.{drop}
use Rattle.base.specs.Said.{gives}
use Rattle.block.specs.Block.{table_in}
use Rattle.table.specs.Table.{logicals}
use Rattle.table_free.specs.Free.{logical_zones, more, points_in}
use Rattle.block_free.proofs.search.extended_points.Given as goal

abbrev pub invariant-loop-i : goal.invariant-loop-i
invariant-loop-i l =
    record {
      few : l.p.count ≤ 1 + l.i + l.i;
      said : more (gives (l.e.starting_lba ∷ [])) (logical_zones (logicals (table_in l.b)))
          ≡ more (gives (points_in l.p)) (logical_zones (drop l.i (logicals (table_in l.b))));
    }
