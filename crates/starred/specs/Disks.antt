-- The two disks of the scope document's numbers, and what is asked of them. Assumes nothing.
use Rattle.std.specs.Prelude.{ℕ, List, [], ◌∷◌, ◌++◌, map, eqb, replicate}
use Rattle.base.specs.Pick.{pick}
use Rattle.base.specs.Said.{Said, gives, refuses, and_then}
use Rattle.record_chs.specs.Chs.{no_chs}
use Rattle.record_entry.specs.declared.MBRPartitionEntry.{MBRPartitionEntry}
use Rattle.record_entry.specs.Entry.{entry_bytes, no_entry}
use Rattle.record_ebr.specs.Ebr.{no_mark, no_kept, ebr_bytes}
use Rattle.extract.specs.Disk.{Disk}
use Rattle.table.specs.declared.MBR.{MBR}
use Rattle.read_table.specs.Read.{read, table_of}
use Rattle.table_push.specs.declared.request.Request.{Request}
use Rattle.careful.specs.Careful.{Change, room_needed, careful_push}

-- an entry without flag and addresses: type, start, sectors
abbrev pub entry : ℕ → ℕ → ℕ → MBRPartitionEntry
entry sys start n = record { boot = 0; first_chs = no_chs; sys = sys; last_chs = no_chs; starting_lba = start; sectors = n }

-- so many sectors of 512 bytes, with one primary entry, and what the other sectors hold
unfoldable pub disk_with : ℕ → MBRPartitionEntry → (ℕ → List ℕ) → Disk
disk_with n e others =
    record {
      width = 512;
      size = n;
      sector = λ a. pick (eqb a 0) (replicate 446 0 ++ entry_bytes e ++ replicate 48 0 ++ 0x55 ∷ 0xAA ∷ []) (others a);
    }

unfoldable pub blank_at : ℕ → List ℕ
blank_at a = replicate 512 0

-- D 10,000, primary 2,048+2,048
unfoldable pub plain_disk : Disk
plain_disk = disk_with 10000 (entry 0x83 2048 2048) blank_at

unfoldable pub ebr_k : List ℕ
ebr_k = ebr_bytes no_mark (record { kept = no_kept; partition_1 = entry 0x83 2048 2048; partition_2 = no_entry })

-- disk K: primary 1 type 05 at 4,096+16,384; one logical, type 83, EBR 4,096, start 6,144, 2,048 sectors
unfoldable pub K : Disk
K = disk_with 20480 (entry 0x05 4096 16384) (λ a. pick (eqb a 4096) ebr_k (blank_at a))

-- what is asked of the table that a disk reads as
unfoldable pub asked : {A : Type 0} → Disk → (MBR → Said A) → Said A
asked d f = and_then (read d) (λ t. f (table_of t))

-- a careful push on K at alignment 2,048, of type 83 and without a geometry
unfoldable pub request : ℕ → ℕ → Request
request start sectors =
    record { align = 2048; geometry = record { cylinders = 0; heads = 0; sectors = 0 }; sys = 0x83; start = start; sectors = sectors }

-- the refusal, or 0 and the LBAs of the stores
unfoldable pub summary : Said Change → List ℕ
summary (refuses k) = k ∷ []
summary (gives c) = 0 ∷ map (λ s. s.lba) c.stores

unfoldable pub pushed_on_k : ℕ → ℕ → List ℕ
pushed_on_k start sectors = summary (careful_push K room_needed (request start sectors))
