-- Tables whose arrays, flags, types and heads fit their types, as those of every table do that a program holds. Assumes nothing.
use Rattle.record_chs.specs.declared.CHS.{CHS}
use Rattle.std.specs.Prelude.{◌≡◌, ◌<◌, length, Option, Some, None}
use Rattle.base.specs.Bytes.{Bytes}
use Rattle.base.specs.All.{All}
use Rattle.record_entry.specs.declared.MBRPartitionEntry.{MBRPartitionEntry}
use Rattle.record_ebr.specs.Ebr.{KeptOk}
use Rattle.record_mbr.specs.declared.MBRHeader.{MBRHeader}
use Rattle.table.specs.declared.LogicalPartition.{LogicalPartition}
use Rattle.table.specs.declared.MBR.{MBR}
use Rattle.table.specs.Table.{logicals}

-- flag, type and heads of an entry are bytes
pub record InByte (e : MBRPartitionEntry) : Type 0 where
  pub boot : e.boot < 256
  pub first : e.first_chs.head < 256
  pub sys : e.sys < 256
  pub last : e.last_chs.head < 256

-- of a header
pub record HeaderIn (h : MBRHeader) : Type 0 where
  pub code : length h.bootstrap_code ≡ 440
  pub code-bytes : Bytes h.bootstrap_code
  pub disk : length h.disk_signature ≡ 4
  pub disk-bytes : Bytes h.disk_signature
  pub mark : length h.copy_protected ≡ 2
  pub mark-bytes : Bytes h.copy_protected
  pub one : InByte h.partition_1
  pub two : InByte h.partition_2
  pub three : InByte h.partition_3
  pub four : InByte h.partition_4

abbrev pub ChsIn : Option CHS → Type 0
ChsIn None = Unit {0}
ChsIn (Some c) = c.head < 256

-- of a logical partition
pub record LogicalIn (l : LogicalPartition) : Type 0 where
  pub kept : KeptOk l.kept
  pub part : InByte l.partition
  pub first : l.ebr_first_chs.head < 256
  pub last : ChsIn l.ebr_last_chs

-- of a table
pub record TableIn (t : MBR) : Type 0 where
  pub header : HeaderIn t.header
  pub heads : t.heads < 256
  pub all : All LogicalIn (logicals t)
