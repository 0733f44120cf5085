-- An EBR as a store: its partition, and the link to what follows. Assumes nothing.
use Rattle.std.specs.Prelude.{ℕ, ◌-◌, Option, unwrap_or}
use Rattle.record_chs.specs.Chs.{no_chs}
use Rattle.record_entry.specs.declared.MBRPartitionEntry.{MBRPartitionEntry}
use Rattle.record_entry.specs.Entry.{no_entry}
use Rattle.record_ebr.specs.declared.EBRHeader.{EBRHeader}
use Rattle.record_ebr.specs.Ebr.{ebr_bytes}
use Rattle.extract.specs.Disk.{Store}
use Rattle.table.specs.declared.LogicalPartition.{LogicalPartition}
use Rattle.chain.specs.Facts.{Next, stop, to, at, start, body_of, leads}
use Rattle.chain.specs.Chain.{starting_at}

-- rule W27: a written link has flag 00 and the extended entry's type; an ending one is 16 zeros
unfoldable pub link_entry : ℕ → Next → MBRPartitionEntry
link_entry sys stop = no_entry
link_entry sys (to r k) =
    record {
      boot = 0;
      first_chs = k.first;
      sys = sys;
      last_chs = unwrap_or k.last no_chs;
      starting_lba = r;
      sectors = unwrap_or k.sectors 0;
    }

-- rule W25: the EBR of l with a link entry
abbrev pub ebr_with : LogicalPartition → MBRPartitionEntry → EBRHeader
ebr_with l link = record { kept = l.kept; partition_1 = starting_at (start l - at l) l.partition; partition_2 = link }

-- the EBR of l, before n, in the extended entry e
unfoldable pub ebr_for : MBRPartitionEntry → LogicalPartition → Option LogicalPartition → EBRHeader
ebr_for e l n =
    record {
      kept = (body_of l).kept;
      partition_1 = (body_of l).part;
      partition_2 = link_entry e.sys (leads e.starting_lba n);
    }

-- rules K33 and V18: it as a store, with the mark that the partition carries
unfoldable pub write : MBRPartitionEntry → LogicalPartition → Option LogicalPartition → Store
write e l n = record { lba = at l; bytes = ebr_bytes l.kept.mark (ebr_for e l n) }
