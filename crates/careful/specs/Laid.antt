-- A change laid over an extract, store by store, as a program without a disk does it. Assumes nothing.
use Rattle.std.specs.Prelude.{ℕ, ◌≤◌, ◌≡◌, ◌⊎◌, List, [], ◌∷◌, length, take}
use Rattle.base.specs.Said.{gives}
use Rattle.extract.specs.Disk.{Store}
use Rattle.extract.specs.Extract.{most_records, disk_of}
use Rattle.extract_lay.specs.Layover.{new_records, new_extract}
use Rattle.sound.specs.Sound.{Contents}
use Rattle.careful.specs.Careful.{Change}
use Rattle.careful.specs.Demand3.{contents_on}

-- an extract with stores laid over it one after another
unfoldable pub lay_all : List ℕ → List Store → List ℕ
lay_all x [] = x
lay_all x (s ∷ ss) = lay_all (new_extract x s.lba s.bytes) ss

-- none of them is refused as a 65th record
abbrev pub NoneTooMany : List ℕ → List Store → Type 0
NoneTooMany x [] = Unit {0}
NoneTooMany x (s ∷ ss) = (length (new_records x s.lba s.bytes) ≤ most_records) × NoneTooMany (new_extract x s.lba s.bytes) ss

-- a safe change laid over the extract: after each store it reads as the table before or after, after all as the table after
pub record SafeLaid (x : List ℕ) (t : Contents) (c : Change) : Type 0 where
  pub stops : (k : ℕ) → NoneTooMany x (take k c.stores)
      → (contents_on (disk_of (lay_all x (take k c.stores))) ≡ gives t) ⊎ (contents_on (disk_of (lay_all x (take k c.stores))) ≡ gives c.result)
  pub done : NoneTooMany x c.stores → contents_on (disk_of (lay_all x c.stores)) ≡ gives c.result
