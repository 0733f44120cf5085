-- Where an LBA stands among the first n of an extract. Assumes nothing.
use Rattle.std.specs.Prelude.{ℕ, ◌≤◌, ◌<◌, List, ◌≡◌, Result, Ok, Err}
use Rattle.extract.specs.Extract.{lba_at}

-- `Found i`: it is number i. `Absent p`: the p before are lower, all others higher
abbrev pub SpotOf : List ℕ → ℕ → ℕ → Result ℕ ℕ → Type 0
SpotOf x n a (Ok i) = (i < n) × (lba_at x i ≡ a)
SpotOf x n a (Err p) = (p ≤ n) × ((j : ℕ) → j < p → lba_at x j < a) × ((j : ℕ) → p ≤ j → j < n → a < lba_at x j)
