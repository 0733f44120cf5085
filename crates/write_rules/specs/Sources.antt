-- Where each record of the new extract comes from: what the internal functions work on. Assumes nothing.
use Rattle.std.specs.Prelude.{ℕ, zero, suc, ◌+◌, ◌-◌, ◌≤◌, ◌<◌, List, [], ◌∷◌, ◌≡◌, ◌⊎◌, ltb, length}
use Rattle.base.specs.Pick.{pick}
use Rattle.record_entry.specs.declared.MBRPartitionEntry.{MBRPartitionEntry}
use Rattle.extract.specs.Disk.{Store}
use Rattle.extract.specs.Rules.{most_records}
use Rattle.extract.specs.Extract.{count, record_at, Good}
use Rattle.extract_lay.specs.declared.plan.Slot.{Slot}
use Rattle.extract_lay.specs.Plan.{slots_from, slots_over}
use Rattle.table.specs.declared.LogicalPartition.{LogicalPartition}
use Rattle.table.specs.Table.{most}
use Rattle.chain.specs.Facts.{at}
use Rattle.write_rules.specs.Records.{ebr_stores}

-- the bytes of store number k
unfoldable pub stored_at : List Store → ℕ → List ℕ
stored_at [] k = []
stored_at (s ∷ ss) zero = s.bytes
stored_at (s ∷ ss) (suc k) = stored_at ss k

-- the sources below the most records are the old extract's records; then come record 0 and the EBRs
abbrev pub mbr_source : ℕ
mbr_source = most_records

abbrev pub ebr_source : ℕ
ebr_source = mbr_source + 1

-- the bytes of a source
unfoldable pub bytes_from : List ℕ → List Store → ℕ → List ℕ
bytes_from x ss k = pick (ltb k mbr_source) (record_at x k) (stored_at ss (k - mbr_source))

-- so are those of a source that is no EBR
abbrev pub kept_from : List ℕ → List ℕ → ℕ → List ℕ
kept_from x first k = bytes_from x (record { lba = 0; bytes = first } ∷ []) k

-- the slots of EBRs, whose sources are numbered from k on
unfoldable pub ebr_slots : ℕ → List LogicalPartition → List Slot
ebr_slots k [] = []
ebr_slots k (l ∷ ls) = record { lba = at l; source = k } ∷ ebr_slots (k + 1) ls

-- record 0 and the EBRs of logical partitions
abbrev pub stores_of : List ℕ → MBRPartitionEntry → List LogicalPartition → List Store
stores_of first e ls = record { lba = 0; bytes = first } ∷ ebr_stores e ls

-- the plan of the new extract
abbrev pub slots_of : List ℕ → List LogicalPartition → List Slot
slots_of x ls = slots_over (record { lba = 0; source = mbr_source } ∷ ebr_slots ebr_source ls) (slots_from x 0 (count x))

-- an EBR's code is 446 bytes
abbrev pub CodeLong : LogicalPartition → Type 0
CodeLong l = length l.kept.bootstrap_code ≡ 446

-- a source that is there
abbrev pub Valid : ℕ → ℕ → ℕ → Type 0
Valid n m k = (k < n) ⊎ ((mbr_source ≤ k) × (k < ebr_source + m))

-- what writing m EBRs over x requires
pub record Writing (x : List ℕ) (n : ℕ) (m : ℕ) (first : List ℕ) : Type 0 where
  pub good : Good x
  pub number : n ≡ count x
  pub few : m ≤ most
  pub long : length first ≡ 512
