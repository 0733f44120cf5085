-- The EBRs of a table as stores, and an extract with stores laid over. Assumes nothing.
use Rattle.std.specs.Prelude.{ℕ, List, [], ◌∷◌}
use Rattle.std.specs.Prelude.{Option, None}
use Rattle.base.specs.Row.{next}
use Rattle.record_entry.specs.declared.MBRPartitionEntry.{MBRPartitionEntry}
use Rattle.record_ebr.specs.Ebr.{no_mark, ebr_bytes}
use Rattle.extract.specs.Disk.{Store}
use Rattle.extract.specs.Extract.{sector_size_of, disk_sectors, records}
use Rattle.extract_lay.specs.Layover.{extract_bytes, laid_over}
use Rattle.table.specs.declared.LogicalPartition.{LogicalPartition}
use Rattle.chain.specs.Facts.{at}
use Rattle.chain.specs.Links.{ebr_for}

-- rule W47: an EBR as plain writing stores it, with zeros for its mark
unfoldable pub write_plain : MBRPartitionEntry → LogicalPartition → Option LogicalPartition → Store
write_plain e l n = record { lba = at l; bytes = ebr_bytes no_mark (ebr_for e l n) }

-- rules W18 and W27: the EBRs of logical partitions in an extended entry, in chain order
unfoldable pub ebr_stores : MBRPartitionEntry → List LogicalPartition → List Store
ebr_stores e [] = []
ebr_stores e (l ∷ ls) = write_plain e l (next ls None) ∷ ebr_stores e ls

-- rule W18: records laid over others, one after the other
unfoldable pub laid_all : List Store → List Store → List Store
laid_all [] rs = rs
laid_all (s ∷ ss) rs = laid_all ss (laid_over s rs)

-- rule W18: the old extract, whose sector size and D hold, with them laid over
unfoldable pub extract_over : List ℕ → List Store → List ℕ
extract_over x ss = extract_bytes (sector_size_of x) (disk_sectors x) (laid_all ss (records x))
