-- The same rules in the order in which the code goes through a table once: entry by entry, pair by pair, logical partition by logical partition. Assumes nothing.
use Rattle.std.specs.Prelude.{ℕ, ◌+◌, Bool, true, false, not, ◌&&◌, ◌||◌, List, [], ◌∷◌, ltb, leb, eqb}
use Rattle.std.specs.Prelude.{Option, None, Some}
use Rattle.base.specs.Pick.{pick}
use Rattle.base.specs.All.{allb}
use Rattle.record_entry.specs.declared.MBRPartitionEntry.{MBRPartitionEntry}
use Rattle.record_entry.specs.Entry.{flag_ok, used, extended, end_of}
use Rattle.table.specs.declared.LogicalPartition.{LogicalPartition}
use Rattle.chain.specs.Facts.{at, start}
use Rattle.sound.specs.Is.{pairsb}
use Rattle.sound.specs.Sound.{Contents, primaries_of, extended_entry, vacantb, end, signedb, entry_chsb, logical_chsb, apartb, not_bothb, of_linkb}

-- start and sectors at least 1, the end by D
unfoldable pub spanb : ℕ → MBRPartitionEntry → Bool
spanb D e = leb 1 e.starting_lba && (leb 1 e.sectors && leb (end_of e) D)

-- a primary entry by itself: flag, CHS and, if it is used, its span
unfoldable pub primaryb : ℕ → MBRPartitionEntry → Bool
primaryb D e = flag_ok e && (entry_chsb e && (not (used e.sys) || spanb D e))

-- two primary entries: they do not overlap, and not both are extended
unfoldable pub pairb : MBRPartitionEntry → MBRPartitionEntry → Bool
pairb e f = apartb e f && not_bothb e f

-- a logical partition by itself: flag, CHS, not extended
unfoldable pub ownb : LogicalPartition → Bool
ownb l = flag_ok l.partition && (logical_chsb l && not (extended l.partition.sys))

-- a zone: used, at least 1 sector, after its EBR
unfoldable pub zoneb : LogicalPartition → Bool
zoneb l = used l.partition.sys && (leb 1 l.partition.sectors && ltb (at l) (start l))

-- a zone, or the first and an EBR without a partition
unfoldable pub placeb : Bool → LogicalPartition → Bool
placeb first l = zoneb l || (first && vacantb l)

-- a link of n sectors: at least 1, ends by the extended end, covers its partition
unfoldable pub coverb : ℕ → LogicalPartition → ℕ → Bool
coverb hi l n = leb 1 n && (leb (at l + n) hi && leb (end l) (at l + n))

-- its link sectors are there and do so
unfoldable pub linkb : ℕ → LogicalPartition → Bool
linkb hi l = of_linkb (coverb hi l) false l.ebr_sectors

-- the first EBR is at `from`; a later one is not before `from`, the end of the partition before it, and has its link
unfoldable pub turnb : ℕ → Bool → ℕ → LogicalPartition → Bool
turnb hi first from l = pick first (eqb (at l) from) (leb from (at l) && linkb hi l)

unfoldable pub standb : ℕ → Bool → ℕ → LogicalPartition → Bool
standb hi first from l = ownb l && (placeb first l && turnb hi first from l)

-- one after the other; the last ends by the extended end
unfoldable pub rowsb : ℕ → Bool → ℕ → List LogicalPartition → Bool
rowsb hi first from [] = leb from hi
rowsb hi first from (l ∷ ls) = standb hi first from l && rowsb hi false (end l) ls

-- no logical partitions without an extended entry
unfoldable pub chainb : Option MBRPartitionEntry → List LogicalPartition → Bool
chainb None [] = true
chainb None (l ∷ ls) = false
chainb (Some e) ls = rowsb (end_of e) true e.starting_lba ls

unfoldable pub walkb : Contents → Bool
walkb t = signedb t && (allb (primaryb t.size) (primaries_of t) && (pairsb pairb (primaries_of t) && chainb (extended_entry t) t.logicals))
