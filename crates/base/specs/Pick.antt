-- A case by a test. Assumes nothing.
use Rattle.std.specs.Prelude.{Bool, true, false, List, [], ◌∷◌, ℕ, eqb}

abbrev pub pick : {A : Type 0} → Bool → A → A → A
pick true a b = a
pick false a b = b

-- is x one of the numbers
abbrev pub among : ℕ → List ℕ → Bool
among x [] = false
among x (y ∷ ys) = pick (eqb x y) true (among x ys)
