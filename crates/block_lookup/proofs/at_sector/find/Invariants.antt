use Rattle.block.specs.Block.{table_in}
use Rattle.record_mbr.specs.Mbr.{primaries}
use Rattle.table_lookup.specs.Hits.{first_at}
use lib.ListN.{drop}
use mathlib.Core.Path.{◌≡◌}
use Prim.Native.Nat.{◌≤◌, ◌+◌, ◌-◌}
use Rattle.block_lookup.proofs.at_sector.find.Given as goal

abbrev pub invariant-loop-i : goal.invariant-loop-i
invariant-loop-i l = (l.i ≤ 4) × (first_at l.sector 1 (primaries (table_in l.b).header) ≡ first_at l.sector (1 + l.i) (drop l.i (primaries (table_in l.b).header)))

abbrev pub decreases-loop-i : goal.decreases-loop-i
decreases-loop-i l = 4 - l.i
