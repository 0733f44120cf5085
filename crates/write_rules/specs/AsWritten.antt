-- The logical partitions as writing leaves them, and the refusals of their geometry and of each EBR. Assumes nothing.
use Rattle.record_chs.specs.declared.CHS.{CHS}
use Rattle.std.specs.Prelude.{ℕ, List, [], ◌∷◌, ◌++◌, map, Bool, true, false, ltb, drop}
use Rattle.std.specs.Prelude.{Option, None, Some}
use Rattle.base.specs.Checks.{Check, ◌!◌}
use Rattle.base.specs.Row.{next}
use Rattle.record_entry.specs.Entry.{flag_ok}
use Rattle.table.specs.declared.LogicalPartition.{LogicalPartition}
use Rattle.table.specs.declared.MBR.{MBR}
use Rattle.table.specs.Table.{logicals, with_logicals}
use Rattle.chain.specs.Facts.{at}
use Rattle.table_address.specs.declared.Geometry.{Geometry}
pub use Rattle.table_address.specs.Address.{slot_geometry, by_geometry}
use Rattle.table_push.specs.Push.{geometry_of}

-- rule W34: the EBR at X, without link sectors and last link CHS
unfoldable pub at_start : ℕ → LogicalPartition → LogicalPartition
at_start X l =
    record {
      partition = l.partition;
      absolute_ebr_lba = record { 0 = X };
      ebr_sectors = None;
      ebr_first_chs = l.ebr_first_chs;
      ebr_last_chs = None;
      kept = l.kept;
    }

-- so is the first logical partition (rule W34)
unfoldable pub first_at_start : ℕ → List LogicalPartition → List LogicalPartition
first_at_start X [] = []
first_at_start X (l ∷ ls) = at_start X l ∷ ls

-- rule W7: the refusals of the addresses, one logical partition after the other
unfoldable pub all_geometry : Geometry → List LogicalPartition → List Check
all_geometry g [] = []
all_geometry g (l ∷ ls) = slot_geometry g l ++ all_geometry g ls

-- rule W34: the logical partitions as writing leaves them
unfoldable pub as_written : Geometry → ℕ → List LogicalPartition → List LogicalPartition
as_written g X ls = map (by_geometry g) (first_at_start X ls)

-- rule W11: link sectors and last link CHS are there
abbrev pub link_there : Option ℕ → Option CHS → Bool
link_there None c = false
link_there (Some n) None = false
link_there (Some n) (Some c) = true

-- rule W11: what follows, if anything does, has its link fields
abbrev pub next_linked : Option LogicalPartition → Bool
next_linked None = true
next_linked (Some m) = link_there m.ebr_sectors m.ebr_last_chs

-- rules W6 and W9 to W11: flag 4, EBR at or past the end of d sectors 2, the next lacks its link fields 18
abbrev pub row_checks : ℕ → LogicalPartition → Bool → List Check
row_checks d l follows = (4 ! flag_ok l.partition) ∷ (2 ! ltb (at l) d) ∷ (18 ! follows) ∷ []

-- one logical partition after the other
unfoldable pub all_rows : ℕ → List LogicalPartition → List Check
all_rows d [] = []
all_rows d (l ∷ ls) = row_checks d l (next_linked (next ls None)) ++ all_rows d ls

-- the table with other logical partitions, as many, in front of its unused slots
abbrev pub relisted : MBR → List LogicalPartition → MBR
relisted t ls = with_logicals t (ls ++ drop t.count t.logical_partitions) t.count

-- rule W6: all refusals of logical partitions in an extended entry that starts at X, geometry first
unfoldable pub logicals_checks : Geometry → ℕ → ℕ → List LogicalPartition → List Check
logicals_checks g X d ls = all_geometry g (first_at_start X ls) ++ all_rows d (as_written g X ls)

-- a table's logical partitions as writing leaves them, and the refusals of their addresses, if the extended entry starts at X
abbrev pub as_written_in : MBR → ℕ → List LogicalPartition
as_written_in t X = as_written (geometry_of t) X (logicals t)

abbrev pub slots_geometry : MBR → ℕ → List Check
slots_geometry t X = all_geometry (geometry_of t) (first_at_start X (logicals t))
