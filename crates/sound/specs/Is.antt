-- Facts and their tests; facts about every two elements. Assumes nothing.
use Rattle.std.specs.Prelude.{◌≡◌, Bool, true, ◌&&◌, List, [], ◌∷◌}
use Rattle.std.specs.Prelude.{Option}
use Rattle.base.specs.Row.{next}
use Rattle.base.specs.All.{All, allb}

-- the test says whether the fact holds, both ways
pub record Is (P : Type 0) (b : Bool) : Type 0 where
  pub to : b ≡ true → P
  pub from : P → b ≡ true

abbrev pub Pairs : {A : Type 0} → (A → A → Type 0) → List A → Type 0
Pairs R [] = Unit {0}
Pairs R (x ∷ xs) = All (R x) xs × Pairs R xs

-- rule S7
unfoldable pub pairsb : {A : Type 0} → (A → A → Bool) → List A → Bool
pairsb p [] = true
pairsb p (x ∷ xs) = allb (p x) xs && pairsb p xs

-- the test of a row
unfoldable pub rowb : {A : Type 0} → (A → Option A → Bool) → List A → Option A → Bool
rowb p [] n = true
rowb p (x ∷ xs) n = p x (next xs n) && rowb p xs n

-- all but the first
abbrev pub later : {A : Type 0} → List A → List A
later [] = []
later (x ∷ xs) = xs
