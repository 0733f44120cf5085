-- Alignment: with no used start 2,048, else the largest divisor of all used starts from 1 to min(16,384, largest start); none: 7. Assumes nothing.
use Rattle.std.specs.Prelude.{ℕ, zero, suc, ◌+◌, ◌%◌, ◌≤◌, ◌<◌, min, max, List, [], ◌∷◌, Bool, true, false, ◌&&◌, ◌≡◌, eqb}
use Rattle.std.specs.Prelude.{Option, None, Some}
use Rattle.base.specs.Pick.{pick}
use Rattle.base.specs.Said.{Said, gives, refuses}
use Rattle.record_entry.specs.declared.MBRPartitionEntry.{MBRPartitionEntry}
use Rattle.record_entry.specs.Entry.{used}
use Rattle.table.specs.Table.{most, default_align, greatest_align}

-- the starts of the used entries (rule A7)
unfoldable pub used_starts : List MBRPartitionEntry → List ℕ
used_starts [] = []
used_starts (e ∷ es) = pick (used e.sys) (e.starting_lba ∷ used_starts es) (used_starts es)

-- does k divide every number (rule A2)
unfoldable pub divides_all : ℕ → List ℕ → Bool
divides_all k [] = true
divides_all k (s ∷ ss) = eqb (s % k) 0 && divides_all k ss

-- the largest of them (rule A2)
unfoldable pub largest_start : List ℕ → ℕ
largest_start [] = 0
largest_start (s ∷ ss) = max s (largest_start ss)

-- the largest number from 1 to n that divides them all (rule A2)
unfoldable pub divisor_to : ℕ → List ℕ → Option ℕ
divisor_to zero ss = None
divisor_to (suc n) ss = pick (divides_all (suc n) ss) (Some (suc n)) (divisor_to n ss)

-- no such number: 7 (rule A6)
abbrev pub or_seven : Option ℕ → Said ℕ
or_seven None = refuses 7
or_seven (Some k) = gives k

-- a single used start equal to 1 gives 1 by the same rule; all starts zero have no number to try (rule A1)
unfoldable pub alignment : List ℕ → Said ℕ
alignment [] = gives default_align
alignment (s ∷ ss) = or_seven (divisor_to (min greatest_align (largest_start (s ∷ ss))) (s ∷ ss))

-- the most: those of four primary and all logical partitions
abbrev pub most_starts : ℕ
most_starts = 4 + most

-- the rule in other words: k divides them all, and no larger number up to n does
pub record Largest (k n : ℕ) (ss : List ℕ) : Type 0 where
  pub above : 1 ≤ k
  pub within : k ≤ n
  pub divides : divides_all k ss ≡ true
  pub least : (j : ℕ) → k < j → j ≤ n → divides_all j ss ≡ false
