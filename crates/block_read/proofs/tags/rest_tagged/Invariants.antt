use Rattle.block.specs.Block.{tagged}
use Rattle.table.specs.Table.{most}
use mathlib.Core.Path.{◌≡◌}
use Prim.Native.Nat.{◌-◌, ◌*◌, ◌/◌, ◌%◌, ◌≤◌}
use Rattle.block_read.proofs.tags.rest_tagged.Given as goal

abbrev pub invariant-loop-i : goal.invariant-loop-i
invariant-loop-i l = (l.i ≤ most) × (tagged l.b (8 * (most / 8)) (most % 8) ≡ tagged l.b l.i (most - l.i))

abbrev pub decreases-loop-i : goal.decreases-loop-i
decreases-loop-i l = most - l.i
