-- An extract collected from a disk, one wanted record after another. Assumes nothing.
use Rattle.std.specs.Prelude.{◌≡◌, List, [], ◌∷◌, false, ◌⊎◌, ℕ, suc}
use Rattle.std.specs.Prelude.{Some}
use Rattle.base.specs.Pick.{pick}
use Rattle.extract.specs.Disk.{Disk}
use Rattle.extract.specs.Extract.{Good, disk_of}
use Rattle.read_table.specs.Facts.{looked}
use Rattle.read_table.specs.Wanted.{absent, first_absent, From}

-- a is one of the numbers
abbrev pub Has : ℕ → List ℕ → Type 0
Has a [] = ⊥
Has a (b ∷ ls) = (a ≡ b) ⊎ Has a ls

-- how many of the sectors have no record
unfoldable pub missing : List ℕ → List ℕ → ℕ
missing x [] = 0
missing x (a ∷ ls) = pick (absent x a) (suc (missing x ls)) (missing x ls)

-- y is x with the disk's record of sector a, as laying it over gives it
pub record Adds (d : Disk) (x : List ℕ) (a : ℕ) (y : List ℕ) : Type 0 where
  pub good : Good y
  pub from : From d y
  pub there : absent y a ≡ false
  pub keeps : (b : ℕ) → absent x b ≡ false → absent y b ≡ false

-- z comes of x by adding what is wanted, n times
pub data Collected (d : Disk) : List ℕ → ℕ → List ℕ → Type 0 where
  enough : {x : List ℕ} → Collected d x 0 x
  more : {x y z : List ℕ} {n a : ℕ} → first_absent x (looked (disk_of x)) ≡ Some a → Adds d x a y → Collected d y n z → Collected d x (suc n) z
