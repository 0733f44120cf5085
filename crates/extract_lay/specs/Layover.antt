-- An extract of given records, and a record laid over an extract. Assumes nothing.
use Rattle.std.specs.Prelude.{ℕ, List, [], ◌∷◌, ◌++◌, eqb, leb, ltb, length}
use Rattle.base.specs.Pick.{pick}
use Rattle.base.specs.Bytes.{bytes_of, little}
use Rattle.base.specs.Checks.{Check, ◌!◌, record_check}
use Rattle.extract.specs.Disk.{Store}
use Rattle.extract.specs.Extract.{sector_size_of, disk_sectors, records, most_records, extract_checks}
unfoldable pub use Rattle.extract.specs.Header.{header_bytes}

-- the LBAs of records, one after the other (rule O12)
unfoldable pub lba_bytes : List Store → List ℕ
lba_bytes [] = []
lba_bytes (s ∷ ss) = bytes_of little 4 s.lba ++ lba_bytes ss

-- the records, one after the other (rule O12)
unfoldable pub record_bytes : List Store → List ℕ
record_bytes [] = []
record_bytes (s ∷ ss) = s.bytes ++ record_bytes ss

-- an extract: header, LBAs, records
unfoldable pub extract_bytes : ℕ → ℕ → List Store → List ℕ
extract_bytes size d ss = header_bytes size d (length ss) ++ lba_bytes ss ++ record_bytes ss

-- a record laid over others: in the place of the one at its LBA, else before the first at a higher LBA (rule O9)
unfoldable pub laid_over : Store → List Store → List Store
laid_over s [] = s ∷ []
laid_over s (t ∷ ts) = pick (ltb s.lba t.lba) (s ∷ t ∷ ts) (pick (eqb s.lba t.lba) (s ∷ ts) (t ∷ laid_over s ts))

-- the records of an extract with one laid over (rules O4 and O9)
abbrev pub new_records : List ℕ → ℕ → List ℕ → List Store
new_records x a r = laid_over (record { lba = a; bytes = r }) (records x)

-- the new extract (rule O12)
unfoldable pub new_extract : List ℕ → ℕ → List ℕ → List ℕ
new_extract x a r = extract_bytes (sector_size_of x) (disk_sectors x) (new_records x a r)

-- the refusals of too many records and of too short an output, in their order, for room bytes (rules O4 to O7)
unfoldable pub room_checks : List ℕ → ℕ → List ℕ → ℕ → List Check
room_checks x a r room =
    (22 ! leb (length (new_records x a r)) most_records) ∷
    (19 ! leb (length (new_extract x a r)) room) ∷
    []

-- all refusals, in their order: the extract's rules, the record's length, its place on the disk, and those (rules O1, O3 and O7)
unfoldable pub lay_checks : List ℕ → ℕ → List ℕ → ℕ → List Check
lay_checks x a r room =
    extract_checks x ++
    record_check r ∷
    (2 ! ltb a (disk_sectors x)) ∷
    room_checks x a r room
