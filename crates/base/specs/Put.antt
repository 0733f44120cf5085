-- A list with other elements laid over a part of it. Assumes nothing.
use Rattle.std.specs.Prelude.{ℕ, suc, ◌+◌, List, [], ◌∷◌, ◌++◌, length, take, drop, set}
use Rattle.base.specs.Bytes.{plus}

-- s with vs in the place of as many of its elements from index at on (rule G4)
unfoldable pub put : List ℕ → ℕ → List ℕ → List ℕ
put s at vs = take at s ++ vs ++ drop (at + length vs) s

abbrev pub over : List ℕ → ℕ → ℕ → List ℕ → List ℕ
over s at k [] = s
over s at k (v ∷ vs) = over (set s (plus at k) v) at (suc k) vs

-- s after the elements vs were stored one by one from index at on
abbrev pub laid : List ℕ → ℕ → List ℕ → List ℕ
laid s at vs = over s at 0 vs
