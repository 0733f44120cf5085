-- The legacy MBR of the UEFI Specification, section 5.2.1: its fields, their places and byte order. Assumes nothing.
use Rattle.std.specs.Prelude.{ℕ, ◌+◌, ◌*◌, ◌%◌, List, take}
use Rattle.base.specs.Bytes.{Order, little, bytes_at, number}
use Rattle.record_chs.specs.declared.CHS.{CHS}
use Rattle.record_chs.specs.Chs.{chs, chs_bytes}
use Rattle.record_entry.specs.declared.MBRPartitionEntry.{MBRPartitionEntry}
use Rattle.record_mbr.specs.declared.MBRHeader.{MBRHeader}

-- what a field holds: bytes, or a number in a byte order
pub data Shape : Type 0 where
  plain : Shape
  numeric : Order → Shape

pub data Value : Type 0 where
  bytes : List ℕ → Value
  num : ℕ → Value

abbrev pub value_of : Shape → List ℕ → Value
value_of plain bs = bytes bs
value_of (numeric o) bs = num (number o bs)

-- a field's offset, length and shape
pub record Place : Type 0 where
  pub offset : ℕ
  pub size : ℕ
  pub shape : Shape

abbrev pub place : ℕ → ℕ → Shape → Place
place o n s = record { offset = o; size = n; shape = s }

-- the fields of a partition record
pub data Part : Type 0 where
  BootIndicator : Part
  StartingCHS : Part
  OSType : Part
  EndingCHS : Part
  StartingLBA : Part
  SizeInLBA : Part

abbrev pub part_place : Part → Place
part_place BootIndicator = place 0 1 (numeric little)
part_place StartingCHS = place 1 3 plain
part_place OSType = place 4 1 (numeric little)
part_place EndingCHS = place 5 3 plain
part_place StartingLBA = place 8 4 (numeric little)
part_place SizeInLBA = place 12 4 (numeric little)

-- the four partition records
pub data Slot : Type 0 where
  first : Slot
  second : Slot
  third : Slot
  fourth : Slot

abbrev pub slot_place : Slot → ℕ
slot_place first = 446
slot_place second = 446 + 16
slot_place third = 446 + 16 * 2
slot_place fourth = 446 + 16 * 3

-- the fields of the MBR
pub data Field : Type 0 where
  BootCode : Field
  UniqueMBRDiskSignature : Field
  Unknown : Field
  PartitionRecord : Slot → Part → Field
  Signature : Field

-- each field's place (rule M10)
abbrev pub field_place : Field → Place
field_place BootCode = place 0 424 plain
field_place UniqueMBRDiskSignature = place 440 4 plain
field_place Unknown = place 444 2 plain
field_place (PartitionRecord i p) = place (slot_place i + (part_place p).offset) (part_place p).size (part_place p).shape
field_place Signature = place 510 2 plain

-- what stands in a record at a field's place
unfoldable pub stands : Field → List ℕ → Value
stands f r = value_of (field_place f).shape (bytes_at r (field_place f).offset (field_place f).size)

-- writing drops higher bits: of an address three bytes hold the cylinder mod 1,024, the head, and the sector mod 64
abbrev pub low_bits : CHS → CHS
low_bits c = chs (c.cylinder % 1024) c.head (c.sector % 64)

-- what our header holds for a field
abbrev pub part_held : Part → MBRPartitionEntry → Value
part_held BootIndicator e = num e.boot
part_held StartingCHS e = bytes (chs_bytes (low_bits e.first_chs))
part_held OSType e = num e.sys
part_held EndingCHS e = bytes (chs_bytes (low_bits e.last_chs))
part_held StartingLBA e = num e.starting_lba
part_held SizeInLBA e = num e.sectors

abbrev pub slot_held : Slot → MBRHeader → MBRPartitionEntry
slot_held first h = h.partition_1
slot_held second h = h.partition_2
slot_held third h = h.partition_3
slot_held fourth h = h.partition_4

unfoldable pub held : Field → MBRHeader → Value
held BootCode h = bytes (take 424 h.bootstrap_code)
held UniqueMBRDiskSignature h = bytes h.disk_signature
held Unknown h = bytes h.copy_protected
held (PartitionRecord i p) h = part_held p (slot_held i h)
held Signature h = bytes h.boot_signature
