-- Rules K22, K27 and V11. Stores in lent bytes, each its LBA (4 bytes, little-endian) and a record; the wiping store, and the first place. Assumes nothing.
use Rattle.std.specs.Prelude.{ℕ, ◌+◌, ◌*◌, List, [], ◌∷◌, ◌++◌, None}
use Rattle.base.specs.Bytes.{bytes_of, little}
use Rattle.record_entry.specs.declared.MBRPartitionEntry.{MBRPartitionEntry}
use Rattle.extract.specs.Disk.{Store}
use Rattle.extract.specs.Extract.{blank}
use Rattle.table.specs.declared.LogicalPartition.{LogicalPartition}

unfoldable pub store_bytes : Store → List ℕ
store_bytes s = bytes_of little 4 s.lba ++ s.bytes

-- one after another
unfoldable pub stores_bytes : List Store → List ℕ
stores_bytes [] = []
stores_bytes (s ∷ ss) = store_bytes s ++ stores_bytes ss

-- the bytes of a store: its LBA, and a record
abbrev pub store_length : ℕ
store_length = 4 + 512

-- rule K12: the lent output holds two stores
abbrev pub room_needed : ℕ
room_needed = 2 * store_length

-- 512 zeros at X
unfoldable pub wipe : MBRPartitionEntry → Store
wipe e = record { lba = e.starting_lba; bytes = blank }

-- the EBR at X, without link sectors and last link CHS, its first link CHS the extended entry's
unfoldable pub moved : MBRPartitionEntry → LogicalPartition → LogicalPartition
moved e l =
    record {
      partition = l.partition;
      absolute_ebr_lba = record { 0 = e.starting_lba };
      ebr_sectors = None;
      ebr_first_chs = e.first_chs;
      ebr_last_chs = None;
      kept = l.kept;
    }
