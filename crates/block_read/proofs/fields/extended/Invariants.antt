use Rattle.block.specs.Block.{table_in}
use Rattle.record_mbr.specs.Mbr.{primaries, extended_of}
use Rattle.table.specs.Table.{extended_in}
use lib.ListN.{drop}
use mathlib.Core.Path.{◌≡◌}
use Prim.Native.Nat.{◌≤◌, ◌-◌}
use Rattle.block_read.proofs.fields.extended.Given as goal

abbrev pub invariant-loop-i : goal.invariant-loop-i
invariant-loop-i l = (l.i ≤ 4) × (extended_in (table_in l.b) ≡ extended_of (drop l.i (primaries (table_in l.b).header)))

abbrev pub decreases-loop-i : goal.decreases-loop-i
decreases-loop-i l = 4 - l.i
