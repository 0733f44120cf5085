-- What each answer of the crate says: a value, or a refusal's number. Assumes nothing.
use Rattle.std.specs.Prelude.{ℕ, ◌*◌, List, [], ◌∷◌}
use Rattle.std.specs.Prelude.{Option}
use Rattle.base.specs.Said.{Said}
use Rattle.base.specs.Checks.{◌!◌, answer, first-fail}
use Rattle.extract.specs.declared.Extract.{Extract}
use Rattle.extract.specs.Extract.{sector_size_of, disk_sectors, count, extract_checks, look_checks}
use Rattle.extract.specs.Rules.{size_ok}

-- the header's sector size, D and record count (rule X1)
abbrev pub header_of : List ℕ → Extract
header_of x = record { sector_size = sector_size_of x; disk_size = disk_sectors x; count = count x }

-- what checking an extract says
unfoldable pub check_says : List ℕ → Said Extract
check_says x = answer (extract_checks x) (header_of x)

-- what looking up says beside the record (rules X19 and Z27)
unfoldable pub look_says : List ℕ → ℕ → Option ℕ
look_says x a = first-fail (look_checks x a)

-- the place of an LBA on the disk in bytes: LBA times sector size (rule X23)
unfoldable pub place_says : ℕ → ℕ → Said ℕ
place_says size a = answer ((1 ! size_ok size) ∷ []) (a * size)
