-- The first sector that reading looks at and an extract has no record for. Assumes nothing.
use Rattle.std.specs.Prelude.{ℕ, ◌+◌, List, [], ◌∷◌, false, ◌≡◌}
use Rattle.std.specs.Prelude.{Option, None, Some}
use Rattle.base.specs.Pick.{pick}
use Rattle.base.specs.Said.{Said, gives, and_then}
use Rattle.extract.specs.Disk.{Disk}
use Rattle.extract.specs.Extract.{disk_of, record_of}
use Rattle.extract.specs.Answers.{check_says}
use Rattle.table.specs.Table.{most}
use Rattle.chain.specs.Chain.{view}
pub use Rattle.chain.specs.Walk.{absent}
use Rattle.read_table.specs.Facts.{looking, behind, looked}

-- the first of these sectors without a record (rule R29)
unfoldable pub first_absent : List ℕ → List ℕ → Option ℕ
first_absent x [] = None
first_absent x (a ∷ ls) = pick (absent x a) (Some a) (first_absent x ls)

-- what an extract wants: a sector, nothing, or 1 (rules R1 and R29)
unfoldable pub wanted_says : List ℕ → Said (Option ℕ)
wanted_says x = and_then (check_says x) (λ e. gives (first_absent x (looked (disk_of x))))

-- the most sectors that reading looks at: sector 0, and the EBRs up to one too many
abbrev pub most_looks : ℕ
most_looks = 2 + most

-- the sectors that reading looks at from the EBR at X + rel on
abbrev pub looks_from : Disk → ℕ → ℕ → ℕ → List ℕ
looks_from d X m rel = looking d (X + rel) (view d (X + rel)) (behind d X m rel)

-- each record of the extract is the disk's
pub record From (d : Disk) (x : List ℕ) : Type 0 where
  pub width : (disk_of x).width ≡ d.width
  pub size : (disk_of x).size ≡ d.size
  pub same : (a : ℕ) → absent x a ≡ false → record_of x a ≡ d.sector a
