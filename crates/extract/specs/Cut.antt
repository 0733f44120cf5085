-- The parts that a new extract is put together from. Assumes nothing.
use Rattle.std.specs.Prelude.{ℕ, ◌+◌, ◌*◌, ◌-◌, ◌≤◌, List, ◌++◌, length, take, drop}
use Rattle.base.specs.Bytes.{bytes_of, little}
use Rattle.extract.specs.declared.Extract.{Extract}
use Rattle.extract.specs.Header.{header_bytes}
use Rattle.extract.specs.Rules.{most_records}

-- the elements of x from index a up to e
abbrev pub from_to : List ℕ → ℕ → ℕ → List ℕ
from_to x a e = take (e - a) (drop a x)

-- how many records are then there
abbrev pub many : ℕ → ℕ → ℕ → ℕ
many n p q = p + 1 + (n - q)

-- the LBAs of x with a in the place of those from number p up to q
abbrev pub lba_parts : List ℕ → ℕ → ℕ → ℕ → ℕ → List ℕ
lba_parts x n p q a = from_to x 24 (24 + p * 4) ++ bytes_of little 4 a ++ from_to x (24 + q * 4) (24 + n * 4)

-- the records of x with r in the place of those from number p up to q
abbrev pub record_parts : List ℕ → ℕ → ℕ → ℕ → List ℕ → List ℕ
record_parts x n p q r = from_to x (24 + n * 4) (24 + n * 4 + p * 512) ++ r ++ from_to x (24 + n * 4 + q * 512) (24 + n * 516)

-- the new extract from its parts
abbrev pub all_parts : List ℕ → Extract → ℕ → ℕ → ℕ → List ℕ → List ℕ
all_parts x e p q a r =
    header_bytes e.sector_size e.disk_size (many e.count p q) ++ lba_parts x e.count p q a ++ record_parts x e.count p q r

-- numbers that fit a checked extract
pub record Room (x : List ℕ) (n p q : ℕ) : Type 0 where
  pub from : p ≤ q
  pub until : q ≤ n
  pub few : n ≤ most_records
  pub long : 24 + n * 516 ≤ length x
