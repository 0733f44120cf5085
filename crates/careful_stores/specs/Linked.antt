-- The EBR of a logical partition with a link, as a store. Assumes nothing.
use Rattle.std.specs.Prelude.{Option}
use Rattle.record_entry.specs.declared.MBRPartitionEntry.{MBRPartitionEntry}
use Rattle.record_ebr.specs.Ebr.{ebr_bytes}
use Rattle.extract.specs.Disk.{Store}
use Rattle.table.specs.declared.LogicalPartition.{LogicalPartition}
use Rattle.chain.specs.Facts.{at, leads}
use Rattle.chain.specs.Links.{link_entry, ebr_with}

-- the link to what follows in the extended entry e; an ending one if nothing does
abbrev pub link_behind : MBRPartitionEntry → Option LogicalPartition → MBRPartitionEntry
link_behind e o = link_entry e.sys (leads e.starting_lba o)

-- the EBR of l with a link and its own mark, as a store
abbrev pub linked_store : LogicalPartition → MBRPartitionEntry → Store
linked_store l link = record { lba = at l; bytes = ebr_bytes l.kept.mark (ebr_with l link) }
