-- Writing a table over an extract: record 0 and each EBR laid over in chain order, and the refusals. Assumes nothing.
use Rattle.std.specs.Prelude.{ℕ, List, [], ◌∷◌, ◌++◌, ltb, leb, length}
use Rattle.std.specs.Prelude.{Option, None, Some}
use Rattle.base.specs.Checks.{Check, ◌!◌}
use Rattle.record_entry.specs.declared.MBRPartitionEntry.{MBRPartitionEntry}
use Rattle.record_mbr.specs.declared.MBRHeader.{MBRHeader}
use Rattle.record_mbr.specs.Mbr.{mbr_bytes, header_checks}
use Rattle.extract.specs.Disk.{Store}
use Rattle.extract.specs.Extract.{disk_sectors, records, most_records, extract_checks}
use Rattle.table.specs.declared.LogicalPartition.{LogicalPartition}
use Rattle.table.specs.declared.MBR.{MBR}
use Rattle.table.specs.Table.{count_check, logicals, extended_in}
use Rattle.table_address.specs.declared.Geometry.{Geometry}
use Rattle.table_push.specs.Push.{geometry_of}
use Rattle.write_rules.specs.AsWritten.{as_written, logicals_checks, relisted, slots_geometry}
unfoldable pub use Rattle.write_rules.specs.Records.{ebr_stores, laid_all, extract_over}

-- rules W18 and W43: record 0
abbrev pub header_store : MBRHeader → Store
header_store h = record { lba = 0; bytes = mbr_bytes h }

-- rule W14: without an extended entry none is written
abbrev pub chain_stores : Geometry → Option MBRPartitionEntry → List LogicalPartition → List Store
chain_stores g None ls = []
chain_stores g (Some e) ls = ebr_stores e (as_written g e.starting_lba ls)

-- what is written of a table
unfoldable pub table_stores : MBR → List Store
table_stores t = header_store t.header ∷ chain_stores (geometry_of t) (extended_in t) (logicals t)

-- rules W6, W15 and W16: a 65th record 22, lent output too short 19
unfoldable pub written_room : List ℕ → List Store → ℕ → List Check
written_room x ss room = (22 ! leb (length (laid_all ss (records x))) most_records) ∷ (19 ! leb (length (extract_over x ss)) room) ∷ []

-- rules W6 to W14: geometry, and per logical 4, 2, 18; nothing without an extended entry
abbrev pub chain_checks : Geometry → Option MBRPartitionEntry → ℕ → List LogicalPartition → List Check
chain_checks g None d ls = []
chain_checks g (Some e) d ls = logicals_checks g e.starting_lba d ls

-- rule W5: D 0
abbrev pub disk_checks : List ℕ → List Check
disk_checks x = (2 ! ltb 0 (disk_sectors x)) ∷ []

-- the refusals from the chain's on, from D 0 on, from the header's on
abbrev pub chain_on : MBR → List ℕ → ℕ → List Check
chain_on t x room = chain_checks (geometry_of t) (extended_in t) (disk_sectors x) (logicals t) ++ written_room x (table_stores t) room

abbrev pub disk_on : MBR → List ℕ → ℕ → List Check
disk_on t x room = disk_checks x ++ chain_on t x room

-- rules W3 and W6
abbrev pub header_refusals : MBR → List ℕ → ℕ → List Check
header_refusals t x room = header_checks t.header ++ disk_on t x room

-- rules G5 and W2 to W16: all refusals in their order, a count over the capacity, extract, header, D 0, geometry and logicals, room
unfoldable pub write_checks : MBR → List ℕ → ℕ → List Check
write_checks t x room = count_check t ∷ (extract_checks x ++ header_refusals t x room)

-- rules W14 and W34: the table as writing leaves it, without an extended entry as it was
abbrev pub left_by : Option MBRPartitionEntry → MBR → MBR
left_by None t = t
left_by (Some e) t = relisted t (as_written (geometry_of t) e.starting_lba (logicals t))

-- the refusals of the addresses alone
abbrev pub chain_geometry : Option MBRPartitionEntry → MBR → List Check
chain_geometry None t = []
chain_geometry (Some e) t = slots_geometry t e.starting_lba

-- rule W43: header only, extract, header, D 0, room
unfoldable pub header_only_checks : MBRHeader → List ℕ → ℕ → List Check
header_only_checks h x room = extract_checks x ++ (header_checks h ++ (disk_checks x ++ written_room x (header_store h ∷ []) room))
