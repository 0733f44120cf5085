-- What the greatest common divisor of two numbers is, and of all starts. `d ∣ n` is the kit's: n is d times some number. Assumes nothing.
use Rattle.std.specs.Prelude.{ℕ, List, [], ◌∷◌, ◌≡◌}
use Rattle.std.specs.Int.{◌∣◌}
use Rattle.read_align.specs.Align.{divides_all}

-- g divides both numbers, and whatever divides both divides g; so of 0 and 0 it is 0 (rule A10)
pub record Greatest (g a b : ℕ) : Type 0 where
  pub first : g ∣ a
  pub second : g ∣ b
  pub greatest : (d : ℕ) → d ∣ a → d ∣ b → d ∣ g

-- the numbers that divide g are those that divide them all
abbrev pub SameDivisors : ℕ → List ℕ → Type 0
SameDivisors g ss = (d : ℕ) → divides_all d (g ∷ []) ≡ divides_all d ss
