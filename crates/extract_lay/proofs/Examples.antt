-- Small extracts, computed. Assumes nothing.
use mathlib.Core.Path.{◌≡◌, refl}
use mathlib.Core.List.{List, [], ◌∷◌, ◌++◌}
use Rattle.std.specs.Prelude.{Some}
use Prim.Native.Nat.{ℕ}
use lib.ListN.{replicate}
use Rattle.base.specs.Said.{gives, refuses}
use Rattle.extract.specs.Disk.{Store}
use Rattle.extract.specs.Extract.{word, record_at, lbas_from, records_from, ascending, all_below, extract_checks, record_in, look_checks, record_of}
use Rattle.extract.specs.Answers.{check_says, look_says}
use Rattle.extract_lay.specs.Layover.{lba_bytes, record_bytes, extract_bytes, laid_over}
use Rattle.extract.specs.Header.{header_bytes}

-- no records, D 0
unfoldable none_at_all : List ℕ
none_at_all = 0 ∷ 2 ∷ 0 ∷ 0 ∷ 0 ∷ 0 ∷ 0 ∷ 0 ∷ 0 ∷ 0 ∷ 0 ∷ 0 ∷ 24 ∷ 0 ∷ 0 ∷ 0 ∷ 24 ∷ 0 ∷ 0 ∷ 0 ∷ 24 ∷ 0 ∷ 0 ∷ 0 ∷ []

empty-good : check_says none_at_all ≡ gives (record { sector_size = 512; disk_size = 0; count = 0 })
unfolding none_at_all check_says extract_checks word lbas_from ascending all_below
empty-good = refl

empty-longer : check_says (none_at_all ++ 0 ∷ []) ≡ refuses 1
unfolding none_at_all check_says extract_checks word lbas_from ascending all_below
empty-longer = refl

-- its bytes are those of no records
empty-bytes : extract_bytes 512 0 [] ≡ none_at_all
unfolding none_at_all extract_bytes header_bytes lba_bytes record_bytes
empty-bytes = refl

empty-lookup : look_says none_at_all 0 ≡ Some 2
unfolding none_at_all look_says look_checks extract_checks word lbas_from ascending all_below
empty-lookup = refl

-- records at 1 and 5: one laid at 3 stands between them, one laid at 5 takes its place
abbrev one-five : List Store
one-five = record { lba = 1; bytes = 10 ∷ [] } ∷ record { lba = 5; bytes = 50 ∷ [] } ∷ []

laid-between : laid_over (record { lba = 3; bytes = 30 ∷ [] }) one-five ≡ record { lba = 1; bytes = 10 ∷ [] } ∷ record { lba = 3; bytes = 30 ∷ [] } ∷ record { lba = 5; bytes = 50 ∷ [] } ∷ []
unfolding laid_over
laid-between = refl

laid-instead : laid_over (record { lba = 5; bytes = 30 ∷ [] }) one-five ≡ record { lba = 1; bytes = 10 ∷ [] } ∷ record { lba = 5; bytes = 30 ∷ [] } ∷ []
unfolding laid_over
laid-instead = refl

laid-last : laid_over (record { lba = 9; bytes = 30 ∷ [] }) one-five ≡ record { lba = 1; bytes = 10 ∷ [] } ∷ record { lba = 5; bytes = 50 ∷ [] } ∷ record { lba = 9; bytes = 30 ∷ [] } ∷ []
unfolding laid_over
laid-last = refl

-- one record at 3 of 10 sectors of 4,096 bytes
unfoldable single : List ℕ
single = extract_bytes 4096 10 (record { lba = 3; bytes = replicate 512 7 } ∷ [])

single-good : check_says single ≡ gives (record { sector_size = 4096; disk_size = 10; count = 1 })
unfolding single check_says extract_checks word lbas_from ascending all_below extract_bytes header_bytes lba_bytes record_bytes
single-good = refl

single-record : record_of single 3 ≡ replicate 512 7
unfolding single word records_from record_at record_in extract_bytes header_bytes lba_bytes record_bytes
single-record = refl

single-absent : record_of single 4 ≡ []
unfolding single word records_from record_at record_in extract_bytes header_bytes lba_bytes record_bytes
single-absent = refl
