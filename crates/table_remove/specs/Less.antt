-- A table without one of its partitions. Assumes nothing.
use Rattle.std.specs.Prelude.{ℕ, ◌+◌, ◌-◌, eqb, drop}
use Rattle.std.proofs.Math.Seq.{paste}
use Rattle.base.specs.Pick.{pick}
use Rattle.record_entry.specs.declared.MBRPartitionEntry.{MBRPartitionEntry}
use Rattle.record_entry.specs.Entry.{no_entry}
use Rattle.record_mbr.specs.declared.MBRHeader.{MBRHeader}
use Rattle.table.specs.declared.MBR.{MBR}
use Rattle.table.specs.Table.{with_logicals}

-- the table without logical partition k, counted from 0: the later ones move down by one, the slots from the old last one on stay (rule D4)
abbrev pub without : MBR → ℕ → MBR
without t k =
    with_logicals t (paste t.logical_partitions k (drop (k + 1) t.logical_partitions) (t.count - 1 - k)) (t.count - 1)

-- an entry that becomes the empty one where it is the one
abbrev pub empty_at : ℕ → ℕ → MBRPartitionEntry → MBRPartitionEntry
empty_at n i e = pick (eqb n i) no_entry e

-- the header whose entry number n is empty (rule D10)
abbrev pub emptied : MBRHeader → ℕ → MBRHeader
emptied h n =
    record {
      bootstrap_code = h.bootstrap_code;
      disk_signature = h.disk_signature;
      copy_protected = h.copy_protected;
      partition_1 = empty_at n 1 h.partition_1;
      partition_2 = empty_at n 2 h.partition_2;
      partition_3 = empty_at n 3 h.partition_3;
      partition_4 = empty_at n 4 h.partition_4;
      boot_signature = h.boot_signature;
    }

-- the table whose primary number n is empty; the logical partitions stay (rule D10)
abbrev pub without_primary : MBR → ℕ → MBR
without_primary t n =
    record {
      sector_size = t.sector_size;
      header = emptied t.header n;
      logical_partitions = t.logical_partitions;
      count = t.count;
      align = t.align;
      cylinders = t.cylinders;
      heads = t.heads;
      sectors = t.sectors;
      disk_size = t.disk_size;
    }
