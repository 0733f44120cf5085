-- A fact about every element of a list, and the test of one. Assumes nothing.
use Rattle.std.specs.Prelude.{Bool, true, ◌&&◌, List, [], ◌∷◌}

abbrev pub All : {A : Type 0} → (A → Type 0) → List A → Type 0
All P [] = Unit {0}
All P (x ∷ xs) = P x × All P xs

unfoldable pub allb : {A : Type 0} → (A → Bool) → List A → Bool
allb p [] = true
allb p (x ∷ xs) = p x && allb p xs
