use Rattle.table.specs.Table.{most}
use Rattle.block.specs.Block.{slots_in}
use lib.ListN.{length, take}
use Prim.Native.Nat.{◌≤◌, ◌-◌}
use mathlib.Core.Path.{◌≡◌}
use Rattle.block_read.proofs.parts_in.get_slots.Given as goal

abbrev pub invariant-loop-i : goal.invariant-loop-i
invariant-loop-i l = (l.i ≤ most) × ((length l.ls ≡ most) × (take l.i l.ls ≡ slots_in l.b l.i))

abbrev pub decreases-loop-i : goal.decreases-loop-i
decreases-loop-i l = most - l.i
