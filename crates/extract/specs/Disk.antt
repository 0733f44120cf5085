-- A disk, and stores on it. Assumes nothing.
use Rattle.std.specs.Prelude.{ℕ, List, [], ◌∷◌, ◌≡◌, eqb}
use Rattle.base.specs.Pick.{pick}

-- a disk: the bytes of a sector, the number of its sectors (D), and the first 512 bytes of each sector
pub record Disk : Type 0 where
  pub width : ℕ
  pub size : ℕ
  pub sector : ℕ → List ℕ

-- a store: a record and the LBA of its sector
pub record Store : Type 0 where
  pub lba : ℕ
  pub bytes : List ℕ

-- the disk with one sector replaced
unfoldable pub stored : Disk → Store → Disk
stored d s = record { width = d.width; size = d.size; sector = λ a. pick (eqb a s.lba) s.bytes (d.sector a) }

-- the disk after stores, in their order (rule X22)
unfoldable pub after : Disk → List Store → Disk
after d [] = d
after d (s ∷ ss) = after (stored d s) ss

-- two disks that no reader can tell apart
pub record Same (d e : Disk) : Type 0 where
  pub width : d.width ≡ e.width
  pub size : d.size ≡ e.size
  pub sector : (a : ℕ) → d.sector a ≡ e.sector a
