use Rattle.block_read.proofs.tags.Tags.{small}
use Rattle.block.specs.Block.{tagged}
use Rattle.table.specs.Table.{most}
use mathlib.Core.Path.{◌≡◌}
use Prim.Native.Nat.{◌-◌, ◌*◌, ◌/◌, ◌≤◌}
use Rattle.block_read.proofs.tags.words_tagged.Given as goal

abbrev pub invariant-loop-i : goal.invariant-loop-i
invariant-loop-i l = (l.i ≤ most / 8) × (small 8 l.all ≡ tagged l.b 0 (8 * l.i))

abbrev pub decreases-loop-i : goal.decreases-loop-i
decreases-loop-i l = most / 8 - l.i
