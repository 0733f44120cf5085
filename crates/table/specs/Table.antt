-- The table: header, logical partitions, and what no disk holds. Assumes nothing.
use Rattle.std.specs.Prelude.{ℕ, ◌+◌, ◌-◌, ◌*◌, ◌/◌, List, [], ◌++◌, map, leb, length, take, replicate, None}
use Rattle.std.specs.Prelude.{Option}
use Rattle.base.specs.Checks.{Check, ◌!◌}
use Rattle.record_chs.specs.Chs.{no_chs}
use Rattle.record_entry.specs.declared.MBRPartitionEntry.{MBRPartitionEntry}
use Rattle.record_entry.specs.Entry.{no_entry}
use Rattle.record_ebr.specs.declared.Kept.{Kept}
use Rattle.record_ebr.specs.Ebr.{no_kept}
use Rattle.record_mbr.specs.Mbr.{primaries, extended_of}
use Rattle.table.specs.declared.LogicalPartition.{LogicalPartition}
use Rattle.table.specs.declared.MBR.{MBR}

-- the most logical partitions of a table (rule G5)
abbrev pub most : ℕ
most = 24

-- the default alignment (rule A1)
abbrev pub default_align : ℕ
default_align = 2048

-- the greatest alignment (rule A2)
abbrev pub greatest_align : ℕ
greatest_align = 16384

-- a number above 0 rounded up to a multiple of the alignment (rules P3 and F14)
unfoldable pub rounded : ℕ → ℕ → ℕ
rounded align n = ((n - 1) / align + 1) * align

-- the table's logical partitions
abbrev pub logicals : MBR → List LogicalPartition
logicals t = take t.count t.logical_partitions

-- a table handed in with a count over that is refused first (rule G5)
abbrev pub count_check : MBR → Check
count_check t = 6 ! leb t.count most

-- an empty logical partition but for what it keeps
abbrev pub empty_but : Kept → LogicalPartition
empty_but k =
    record {
      partition = no_entry;
      absolute_ebr_lba = record { 0 = 0 };
      ebr_sectors = None;
      ebr_first_chs = no_chs;
      ebr_last_chs = None;
      kept = k;
    }

-- what an unused slot reads as outside the array
abbrev pub no_logical : LogicalPartition
no_logical = empty_but (record { bootstrap_code = []; mark = [] })

-- an unused slot of a table that is made: empty, its code and its mark zeros
abbrev pub empty_slot : LogicalPartition
empty_slot = empty_but no_kept

-- logical partitions in an array with unused slots behind them
unfoldable pub slots : List LogicalPartition → List LogicalPartition
slots ls = ls ++ replicate (most - length ls) empty_slot

-- the first extended primary entry
abbrev pub extended_in : MBR → Option MBRPartitionEntry
extended_in t = extended_of (primaries t.header)

-- the entries of the logical partitions
abbrev pub parts : List LogicalPartition → List MBRPartitionEntry
parts ls = map (λ l. l.partition) ls

-- the table with other logical partitions
abbrev pub with_logicals : MBR → List LogicalPartition → ℕ → MBR
with_logicals t ls n =
    record {
      sector_size = t.sector_size;
      header = t.header;
      logical_partitions = ls;
      count = n;
      align = t.align;
      cylinders = t.cylinders;
      heads = t.heads;
      sectors = t.sectors;
      disk_size = t.disk_size;
    }
