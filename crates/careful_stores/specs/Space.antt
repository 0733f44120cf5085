-- The refusals of a new partition among others that its place and the room for its stores decide. Assumes nothing.
use Rattle.std.specs.Prelude.{ℕ, Bool, List, [], ◌∷◌, leb, Option, None, Some}
use Rattle.base.specs.Checks.{Check, ◌!◌}
use Rattle.record_entry.specs.declared.MBRPartitionEntry.{MBRPartitionEntry}
use Rattle.record_entry.specs.Entry.{end_of}
use Rattle.table.specs.declared.LogicalPartition.{LogicalPartition}
use Rattle.chain.specs.Facts.{at}
use Rattle.sound.specs.Sound.{end, bound}
use Rattle.careful_stores.specs.Order.{earlier_one, later_one}
use Rattle.careful_stores.specs.Stored.{room_needed}
use Rattle.careful_stores.specs.declared.push_writer.Between.{Between}

-- where the one before ends; 0 if there is none (rule K11)
abbrev pub end_behind : Option LogicalPartition → ℕ
end_behind None = 0
end_behind (Some l) = end l

-- the two comparisons of 21 for a new partition with its EBR at p and its end at e, the extended end being hi: it starts at or behind the end of the one before it,
-- and ends by the EBR of the one behind it (rule K11)
abbrev pub starts_behind : ℕ → List LogicalPartition → Bool
starts_behind p ls = leb (end_behind (earlier_one p ls)) p

abbrev pub ends_before : ℕ → ℕ → ℕ → List LogicalPartition → Bool
ends_before hi p e ls = leb e (bound hi (later_one p ls))

-- rules K7 and K10 to K12: 12, 21 and 19 of a new partition that stands there
abbrev pub space_between : MBRPartitionEntry → Between → LogicalPartition → ℕ → List Check
space_between e b new room =
    (12 ! leb (end new) (end_of e))
    ∷ (21 ! leb (end_behind b.earlier) (at new))
    ∷ (21 ! leb (end new) b.bound)
    ∷ (19 ! leb room_needed room)
    ∷ []
