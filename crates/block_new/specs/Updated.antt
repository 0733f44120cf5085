-- Another disk for the table in a block, where it lies. Assumes nothing.
use Rattle.std.specs.Prelude.{ℕ, List}
use Rattle.base.specs.Said.{Said, gives, and_then}
use Rattle.extract.specs.Answers.{check_says}
use Rattle.table.specs.declared.MBR.{MBR}
use Rattle.block_slot.specs.Changed.{with_disk}

-- the sector size and D of an extract
abbrev pub updated_on : List ℕ → List ℕ → MBR → Said (List ℕ)
updated_on b x t = and_then (check_says x) (λ e. gives (with_disk b e.sector_size e.disk_size))
