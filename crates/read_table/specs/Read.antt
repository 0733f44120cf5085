-- Reading a table from the disk that an extract stands for: 1, 2, 3, 4, chain, 7. Assumes nothing.
use Rattle.std.specs.Prelude.{ℕ, List, [], ◌++◌, length}
use Rattle.base.specs.Said.{Said, gives, refuses, and_then}
use Rattle.record_mbr.specs.declared.MBRHeader.{MBRHeader}
use Rattle.record_mbr.specs.Mbr.{primaries, extended_of, no_header}
use Rattle.extract.specs.Disk.{Disk}
use Rattle.extract.specs.Extract.{disk_of}
use Rattle.extract.specs.Answers.{check_says}
use Rattle.table.specs.declared.LogicalPartition.{LogicalPartition}
use Rattle.table.specs.declared.MBR.{MBR}
use Rattle.table.specs.Table.{default_align, parts}
pub use Rattle.table.specs.Table.{slots}
use Rattle.chain.specs.Chain.{view, logicals_of}
use Rattle.read_align.specs.Align.{used_starts, alignment}
unfoldable pub use Rattle.read_header.specs.Header.{header_on, header_says}

-- a table as a disk says it
pub record Table : Type 0 where
  pub width : ℕ
  pub size : ℕ
  pub header : MBRHeader
  pub logicals : List LogicalPartition
  pub align : ℕ

-- the header with its chain (rule R26)
unfoldable pub with_chain : Disk → MBRHeader → Said Table
with_chain d h =
    and_then (logicals_of (view d) (extended_of (primaries h)))
    (λ ls. and_then (alignment (used_starts (primaries h ++ parts ls)))
    (λ a. gives (record { width = d.width; size = d.size; header = h; logicals = ls; align = a })))

-- what a disk reads as
unfoldable pub read : Disk → Said Table
read d = and_then (header_on d) (with_chain d)

-- what an extract reads as (rules R1 and R5)
unfoldable pub read_says : List ℕ → Said Table
read_says x = and_then (check_says x) (λ e. read (disk_of x))

-- the table by value: no geometry (rules R6 and R26)
unfoldable pub table_of : Table → MBR
table_of t =
    record {
      sector_size = t.width;
      header = t.header;
      logical_partitions = slots t.logicals;
      count = length t.logicals;
      align = t.align;
      cylinders = 0;
      heads = 0;
      sectors = 0;
      disk_size = t.size;
    }

-- what reading says, the table by value
abbrev pub table_read : Said Table → Said MBR
table_read s = and_then s (λ t. gives (table_of t))

-- what stands in the place of a table that is refused
unfoldable pub no_table : MBR
no_table = table_of (record { width = 0; size = 0; header = no_header; logicals = []; align = default_align })

abbrev pub table_for : Said Table → MBR
table_for (gives t) = table_of t
table_for (refuses k) = no_table
