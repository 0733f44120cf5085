-- The parts that a new extract is put together from: what the internal functions work on. Assumes nothing.
use Rattle.std.specs.Prelude.{ℕ, ◌-◌, ◌<◌, List, ◌∷◌, ◌++◌, ◌≡◌}
use Rattle.base.specs.Bytes.{Record}
use Rattle.extract.specs.Disk.{Store}
use Rattle.extract.specs.Extract.{records_from, Good}
use Rattle.extract.specs.Answers.{header_of}
use Rattle.extract.specs.declared.Extract.{Extract}
use Rattle.extract_lay.specs.Layover.{new_records}
use Rattle.extract.specs.Cut.{Room}

-- of n records, s in the place of those from number p up to q
abbrev pub cut : List ℕ → ℕ → ℕ → ℕ → Store → List Store
cut x n p q s = records_from x 0 p ++ s ∷ records_from x q (n - q)

-- the record r at LBA a goes where those from number p up to q are
pub record Laying (x : List ℕ) (e : Extract) (p q a : ℕ) (r : List ℕ) : Type 0 where
  pub good : Good x
  pub header : e ≡ header_of x
  pub room : Room x e.count p q
  pub fit : Record r
  pub word : a < 4294967296
  pub cuts : new_records x a r ≡ cut x e.count p q (record { lba = a; bytes = r })
