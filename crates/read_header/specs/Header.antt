-- Reading the header of the disk that an extract stands for: 1, 2, 3, 4. Assumes nothing.
use Rattle.std.specs.Prelude.{ℕ, List, ◌∷◌, ltb}
use Rattle.base.specs.Said.{Said, and_then}
use Rattle.base.specs.Checks.{◌!◌, answer}
use Rattle.record_mbr.specs.declared.MBRHeader.{MBRHeader}
use Rattle.record_mbr.specs.Mbr.{mbr_of, header_checks}
use Rattle.extract.specs.Disk.{Disk}
use Rattle.extract.specs.Extract.{disk_of}
use Rattle.extract.specs.Answers.{check_says}
pub use Rattle.table.specs.Table.{slots}

-- the MBR at sector 0: past the disk 2, signature 3, flags 4 (rules R2 to R4)
unfoldable pub header_on : Disk → Said MBRHeader
header_on d = answer ((2 ! ltb 0 d.size) ∷ header_checks (mbr_of (d.sector 0))) (mbr_of (d.sector 0))

-- its header alone (rule R5)
unfoldable pub header_says : List ℕ → Said MBRHeader
header_says x = and_then (check_says x) (λ e. header_on (disk_of x))
