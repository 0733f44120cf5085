-- The extract: its words, its records, its rules, and the disk that it stands for. Assumes nothing.
use Rattle.std.specs.Prelude.{ℕ, zero, suc, ◌+◌, ◌*◌, List, [], ◌∷◌, ◌++◌, Bool, true, false, eqb, leb, ltb, length, take, drop, replicate}
use Rattle.base.specs.Pick.{pick}
use Rattle.base.specs.Bytes.{Bytes, number, bytes_at, little}
use Rattle.base.specs.Checks.{Check, ◌!◌, checked, AllHold}
use Rattle.extract.specs.Disk.{Disk, Store}
pub use Rattle.extract.specs.Rules.{size_ok, most_records, word_checks}

-- the little-endian u32 at a byte offset
unfoldable pub word : List ℕ → ℕ → ℕ
word x at = number little (bytes_at x at 4)

-- the header: sector size, disk sectors D, record count n, offset of the LBA list, offset of the records, total length
abbrev pub sector_size_of : List ℕ → ℕ
sector_size_of x = word x 0

abbrev pub disk_sectors : List ℕ → ℕ
disk_sectors x = word x 4

abbrev pub count : List ℕ → ℕ
count x = word x 8

abbrev pub list_offset : List ℕ → ℕ
list_offset x = word x 12

abbrev pub record_offset : List ℕ → ℕ
record_offset x = word x 16

abbrev pub total : List ℕ → ℕ
total x = word x 20

-- LBA number i (rule X13)
abbrev pub lba_at : List ℕ → ℕ → ℕ
lba_at x i = word x (24 + i * 4)

-- record number i (rule X13)
unfoldable pub record_at : List ℕ → ℕ → List ℕ
record_at x i = take 512 (drop (24 + count x * 4 + i * 512) x)

-- the k LBAs from number i on
unfoldable pub lbas_from : List ℕ → ℕ → ℕ → List ℕ
lbas_from x i zero = []
lbas_from x i (suc k) = lba_at x i ∷ lbas_from x (i + 1) k

-- the LBAs of the extract
abbrev pub lbas : List ℕ → List ℕ
lbas x = lbas_from x 0 (count x)

-- the k records from number i on, each with its LBA
unfoldable pub records_from : List ℕ → ℕ → ℕ → List Store
records_from x i zero = []
records_from x i (suc k) = record { lba = lba_at x i; bytes = record_at x i } ∷ records_from x (i + 1) k

-- the records of the extract
abbrev pub records : List ℕ → List Store
records x = records_from x 0 (count x)

-- numbers that ascend strictly (rule X11)
unfoldable pub ascending : List ℕ → Bool
ascending [] = true
ascending (a ∷ []) = true
ascending (a ∷ b ∷ ls) = pick (ltb a b) (ascending (b ∷ ls)) false

-- numbers that are all below d (rule X11)
unfoldable pub all_below : ℕ → List ℕ → Bool
all_below d [] = true
all_below d (a ∷ ls) = pick (ltb a d) (all_below d ls) false

-- the rules of the LBAs, in their order, for d sectors
abbrev pub lba_checks : ℕ → List ℕ → List Check
lba_checks d ls =
    (1 ! ascending ls) ∷
    (1 ! all_below d ls) ∷
    []

-- the rules, in their order (rule X1)
unfoldable pub extract_checks : List ℕ → List Check
extract_checks x =
    (1 ! leb 24 (length x)) ∷
    word_checks (length x) (sector_size_of x) (count x) (list_offset x) (record_offset x) (total x) ++
    lba_checks (disk_sectors x) (lbas x)

-- what a function that works on an extract may require: the rules hold, and its elements are bytes
pub record Good (x : List ℕ) : Type 0 where
  pub rules : AllHold (extract_checks x)
  pub bytes : Bytes x

-- the record at an LBA among records; `other` if there is none
unfoldable pub record_in : List ℕ → List Store → ℕ → List ℕ
record_in other [] a = other
record_in other (s ∷ ss) a = pick (eqb a s.lba) s.bytes (record_in other ss a)

-- the record at an LBA; empty if the extract has none (rule X16)
abbrev pub record_of : List ℕ → ℕ → List ℕ
record_of x a = record_in [] (records x) a

-- 512 zeros
abbrev pub blank : List ℕ
blank = replicate 512 0

-- the disk that an extract stands for: a sector without a record reads as zeros (rule X15)
unfoldable pub disk_of : List ℕ → Disk
disk_of x = record { width = sector_size_of x; size = disk_sectors x; sector = record_in blank (records x) }

-- the refusals of a lookup, in their order (rule X19)
unfoldable pub look_checks : List ℕ → ℕ → List Check
look_checks x a = extract_checks x ++ (2 ! ltb a (disk_sectors x)) ∷ []

-- what a lookup answers: the record; empty if absent or refused (rule X16)
abbrev pub looked_up : List ℕ → ℕ → List ℕ
looked_up x a = checked (look_checks x a) (λ k. []) (record_of x a)
