-- Where a new partition goes among others: its place in the order, the one before it and the one behind it. Assumes nothing.
use Rattle.std.specs.Prelude.{ℕ, suc, List, [], ◌∷◌, leb, take, drop}
use Rattle.std.specs.Prelude.{Option, None, Some}
use Rattle.base.specs.Pick.{pick}
use Rattle.base.specs.Row.{next}
use Rattle.record_entry.specs.declared.MBRPartitionEntry.{MBRPartitionEntry}
use Rattle.record_entry.specs.Entry.{end_of}
use Rattle.table.specs.declared.LogicalPartition.{LogicalPartition}
use Rattle.table.specs.Table.{empty_slot}
use Rattle.chain.specs.Facts.{at}
use Rattle.sound.specs.Sound.{bound}
use Rattle.careful_stores.specs.Linked.{link_behind}
use Rattle.careful_stores.specs.declared.push_writer.Between.{Between}

unfoldable pub last_logical : LogicalPartition → List LogicalPartition → LogicalPartition
last_logical l [] = l
last_logical l (m ∷ ms) = last_logical m ms

-- the last one; an unused slot if there is none
unfoldable pub last_listed : List LogicalPartition → LogicalPartition
last_listed [] = empty_slot
last_listed (l ∷ ls) = last_logical l ls

-- how many of these EBRs, one after the other, are at or below a place
unfoldable pub up_to : ℕ → List LogicalPartition → ℕ
up_to p [] = 0
up_to p (l ∷ ls) = pick (leb (at l) p) (suc (up_to p ls)) 0

-- how many stand before a new partition whose EBR is at p: up to the last EBR at or below p, the first in any case (rule K30)
unfoldable pub order_at : ℕ → List LogicalPartition → ℕ
order_at p [] = 0
order_at p (l ∷ ls) = suc (up_to p ls)

-- the one before it; an unused slot if there is none
unfoldable pub earlier : ℕ → List LogicalPartition → LogicalPartition
earlier p ls = last_listed (take (order_at p ls) ls)

-- the one before it, if there is one
unfoldable pub earlier_one : ℕ → List LogicalPartition → Option LogicalPartition
earlier_one p [] = None
earlier_one p (l ∷ ls) = Some (last_logical l (take (up_to p ls) ls))

-- those behind it
unfoldable pub behind_at : ℕ → List LogicalPartition → List LogicalPartition
behind_at p ls = drop (order_at p ls) ls

-- the one behind it, if there is one
abbrev pub later_one : ℕ → List LogicalPartition → Option LogicalPartition
later_one p ls = next (behind_at p ls) None

-- what a new partition at p stands between, in the extended entry e: how many are before it, the last of them if there is one, where it must end, and the link to what follows
unfoldable pub between : MBRPartitionEntry → ℕ → List LogicalPartition → Between
between e p ls =
    record {
      order = order_at p ls;
      earlier = earlier_one p ls;
      bound = bound (end_of e) (later_one p ls);
      link = link_behind e (later_one p ls);
    }
