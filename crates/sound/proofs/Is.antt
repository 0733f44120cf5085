-- How tests of facts are built. Assumes nothing.
use mathlib.Core.Path.{◌≡◌, refl}
use mathlib.Core.Logic.{◌⊎◌, inl, inr}
use Rattle.std.specs.Prelude.{Option}
use mathlib.Core.Bool.{Bool, true, false, not, ◌&&◌, ◌||◌}
use mathlib.Core.List.{List, [], ◌∷◌}
use Prim.Native.Nat.{ℕ, ◌≤◌, ◌<◌}
use native.Mathlib.Omega.{arith}
use lib.Dec.{ltb, leb, eqb}
use borrow.Author.Tests.{ltb-true, leb-true, eqb-true, lt-ltb, le-leb, eq-eqb}
use Rattle.base.specs.Row.{Row, next}
use Rattle.base.specs.All.{All, allb}
use Rattle.sound.specs.Is.{Is, Pairs, pairsb, rowb}

not_so : {A : Type 0} → false ≡ true → A
not_so h = let w : ◌≡◌ {A = ℕ} 0 1 = cc in absurd (omega arith)

pub is_lt : (m n : ℕ) → Is (m < n) (ltb m n)
is_lt m n = record { to = ltb-true m n; from = lt-ltb m n }

pub is_le : (m n : ℕ) → Is (m ≤ n) (leb m n)
is_le m n = record { to = leb-true m n; from = le-leb m n }

pub is_eq : (m n : ℕ) → Is (m ≡ n) (eqb m n)
is_eq m n = record { to = eqb-true m n; from = eq-eqb m n }

pub is_true : (b : Bool) → Is (b ≡ true) b
is_true b = record { to = λ h. h; from = λ h. h }

pub is-unit : Is (Unit {0}) true
is-unit = record { to = λ h. tt; from = λ h. refl }

pub is_never : Is ⊥ false
is_never = record { to = λ h. not_so h; from = λ h. absurd h }

pub is-not : (P : Type 0) (b : Bool) → Is P b → Is (¬ P) (not b)
is-not P true k = record { to = λ h. not_so h; from = λ h. absurd (h (k.to refl)) }
is-not P false k = record { to = λ h p. not_so (k.from p); from = λ h. refl }

pub is-and : (P Q : Type 0) (a b : Bool) → Is P a → Is Q b → Is (P × Q) (a && b)
is-and P Q true b k j = record { to = λ h. (k.to refl, j.to h); from = λ h. j.from h.1 }
is-and P Q false b k j = record { to = λ h. not_so h; from = λ h. not_so (k.from h.0) }

pub is-or : (P Q : Type 0) (a b : Bool) → Is P a → Is Q b → Is (P ⊎ Q) (a || b)
is-or P Q true b k j = record { to = λ h. inl (k.to refl); from = λ h. refl }
is-or P Q false b k j = record { to = λ h. inr (j.to h); from = go }
  where
    go : P ⊎ Q → b ≡ true
    go (inl p) = not_so (k.from p)
    go (inr q) = j.from q

-- an implication
pub is-if : (P Q : Type 0) (a b : Bool) → Is P a → Is Q b → Is (P → Q) (not a || b)
is-if P Q true b k j = record { to = λ h p. j.to h; from = λ f. j.from (f (k.to refl)) }
is-if P Q false b k j = record { to = λ h p. not_so (k.from p); from = λ f. refl }

-- the same in other words
pub is-as : (P Q : Type 0) (b : Bool) → (P → Q) → (Q → P) → Is P b → Is Q b
is-as P Q b f g k = record { to = λ h. f (k.to h); from = λ q. k.from (g q) }

module _ {A : Type 0} where
  pub is_all : (P : A → Type 0) (p : A → Bool) → ((x : A) → Is (P x) (p x)) → (xs : List A) → Is (All P xs) (allb p xs)
  unfolding allb
  is_all P p k [] = is-unit
  is_all P p k (x ∷ xs) = is-and (P x) (All P xs) (p x) (allb p xs) (k x) (is_all P p k xs)

  pub is-pairs : (R : A → A → Type 0) (p : A → A → Bool) → ((x y : A) → Is (R x y) (p x y)) → (xs : List A) → Is (Pairs R xs) (pairsb p xs)
  unfolding pairsb
  is-pairs R p k [] = is-unit
  is-pairs R p k (x ∷ xs) = is-and (All (R x) xs) (Pairs R xs) (allb (p x) xs) (pairsb p xs) (is_all (R x) (p x) (k x) xs) (is-pairs R p k xs)

  pub is_row : (P : A → Option A → Type 0) (p : A → Option A → Bool) → ((x : A) (n : Option A) → Is (P x n) (p x n)) → (xs : List A) (n : Option A) → Is (Row P xs n) (rowb p xs n)
  unfolding rowb
  is_row P p k [] n = is-unit
  is_row P p k (x ∷ xs) n = is-and (P x (next xs n)) (Row P xs n) (p x (next xs n)) (rowb p xs n) (k x (next xs n)) (is_row P p k xs n)
