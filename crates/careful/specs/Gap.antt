-- Rule K32, refusal 21 in words: what stands in the way of a new partition. Assumes nothing.
use Rattle.std.specs.Prelude.{ℕ, ◌≤◌, ◌<◌, Bool, ◌&&◌, ◌⊎◌, List, [], ◌∷◌}
use Rattle.table.specs.declared.LogicalPartition.{LogicalPartition}
use Rattle.chain.specs.Facts.{at, start}
use Rattle.careful_stores.specs.Space.{starts_behind, ends_before}
use Rattle.careful.specs.Demand3.{In}

-- one of the list
abbrev pub Any : {A : Type 0} → (A → Type 0) → List A → Type 0
Any P [] = ⊥
Any P (x ∷ xs) = P x ⊎ Any P xs

-- a sector from p on and before e is in the partition
pub record Overlaps (p e : ℕ) (l : LogicalPartition) : Type 0 where
  pub sector : ℕ
  pub low : p ≤ sector
  pub high : sector < e
  pub inside : In sector l.partition

-- its EBR is one of these sectors
pub record OnEbr (p e : ℕ) (l : LogicalPartition) : Type 0 where
  pub low : p ≤ at l
  pub high : at l < e

-- p is between its EBR and itself
pub record Parts (p : ℕ) (l : LogicalPartition) : Type 0 where
  pub low : at l ≤ p
  pub high : p < start l

-- p is before the first EBR
abbrev pub BeforeFirst : ℕ → List LogicalPartition → Type 0
BeforeFirst p [] = ⊥
BeforeFirst p (l ∷ ls) = p < at l

-- what stands in the way of a new partition with its EBR at p and its end at e
abbrev pub Blocked : ℕ → ℕ → List LogicalPartition → Type 0
Blocked p e ls = BeforeFirst p ls ⊎ Any (λ l. Overlaps p e l ⊎ (OnEbr p e l ⊎ Parts p l)) ls

-- the two comparisons of refusal 21
abbrev pub in_gap : ℕ → ℕ → ℕ → List LogicalPartition → Bool
in_gap hi p e ls = starts_behind p ls && ends_before hi p e ls
