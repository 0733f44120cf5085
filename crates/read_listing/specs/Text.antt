-- Numbers as text. Assumes nothing.
use Rattle.std.specs.Prelude.{ℕ, zero, suc, ◌+◌, ◌/◌, ◌%◌, List, [], ◌∷◌, ◌++◌, ltb}
use Rattle.base.specs.Pick.{pick}

-- at most k digits behind the first
unfoldable pub decimal_in : ℕ → ℕ → List ℕ
decimal_in zero n = (48 + n % 10) ∷ []
decimal_in (suc k) n = pick (ltb n 10) ((48 + n % 10) ∷ []) (decimal_in k (n / 10) ++ ((48 + n % 10) ∷ []))

-- a number in decimal digits (rule T1)
unfoldable pub decimal : ℕ → List ℕ
decimal n = decimal_in n n

-- a hex digit, capital (rule T1)
unfoldable pub hex_digit : ℕ → ℕ
hex_digit d = pick (ltb d 10) (48 + d) (55 + d)

-- a byte in two hex digits (rule T1)
abbrev pub hex : ℕ → List ℕ
hex b = hex_digit (b / 16) ∷ hex_digit (b % 16) ∷ []

abbrev pub space : List ℕ
space = 32 ∷ []

-- a space in front
abbrev pub spaced : List ℕ → List ℕ
spaced s = space ++ s

abbrev pub newline : List ℕ
newline = 10 ∷ []
