-- Rows: a fact about each element of a list and the element that follows it, or what follows the list. Assumes nothing.
use Rattle.std.specs.Prelude.{Option, Some}
use Rattle.std.specs.Prelude.{List, [], ◌∷◌}

-- what follows: the head of the list, or n
abbrev pub next : {A : Type 0} → List A → Option A → Option A
next [] n = n
next (x ∷ xs) n = Some x

abbrev pub Row : {A : Type 0} → (A → Option A → Type 0) → List A → Option A → Type 0
Row P [] n = Unit {0}
Row P (x ∷ xs) n = P x (next xs n) × Row P xs n
