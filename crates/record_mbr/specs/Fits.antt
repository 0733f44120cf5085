-- Headers whose numbers and arrays fit their types, as those of every header do that a program holds (`header-fits` of hold).
-- Assumes nothing.
use Rattle.std.specs.Prelude.{◌<◌, ◌^◌, ◌≡◌, length}
use Rattle.record_chs.specs.declared.CHS.{CHS}
use Rattle.record_entry.specs.declared.MBRPartitionEntry.{MBRPartitionEntry}
use Rattle.record_mbr.specs.declared.MBRHeader.{MBRHeader}

-- of an address only the cylinder is a number of more than a byte
abbrev pub ChsFits : CHS → Type 0
ChsFits c = c.cylinder < 2 ^ 16

pub record EntryFits (e : MBRPartitionEntry) : Type 0 where
  pub first : ChsFits e.first_chs
  pub last : ChsFits e.last_chs
  pub start : e.starting_lba < 2 ^ 32
  pub sectors : e.sectors < 2 ^ 32

pub record HeaderFits (h : MBRHeader) : Type 0 where
  pub code : length h.bootstrap_code ≡ 440
  pub disk : length h.disk_signature ≡ 4
  pub mark : length h.copy_protected ≡ 2
  pub one : EntryFits h.partition_1
  pub two : EntryFits h.partition_2
  pub three : EntryFits h.partition_3
  pub four : EntryFits h.partition_4
  pub sign : length h.boot_signature ≡ 2
