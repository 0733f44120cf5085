-- The array of a table's logical partitions. Assumes nothing.
use mathlib.Core.Path.{◌≡◌, ◌∙◌}
use mathlib.Core.List.{List}
use Prim.Native.Nat.{◌-◌, ◌≤◌}
use native.Mathlib.Omega.{arith}
use lib.ListN.{length, take, replicate, length-append, length-replicate}
use lib.Seq.{take-append_seam}
use Rattle.table.specs.declared.LogicalPartition.{LogicalPartition}
use Rattle.table.specs.Table.{most, empty_slot, slots}

-- as long as it is
pub slots_length : (ls : List LogicalPartition) → length ls ≤ most → length (slots ls) ≡ most
unfolding slots
slots_length ls h = length-append ls (replicate (most - length ls) empty_slot) ∙ rw (length-replicate (most - length ls) empty_slot) (omega arith)

-- the slots that are used
pub slots-taken : (ls : List LogicalPartition) → take (length ls) (slots ls) ≡ ls
unfolding slots
slots-taken ls = take-append_seam ls (replicate (most - length ls) empty_slot)
