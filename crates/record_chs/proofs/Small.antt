-- Products and remainders of small numbers. Assumes nothing.
use mathlib.Core.Path.{◌≡◌}
use Prim.Native.Nat.{ℕ, ◌*◌, ◌/◌, ◌%◌, ◌<◌, ◌≤◌}
use native.Mathlib.Nat.{mul-le-mul, mul-zero, mod-lt, div-lt_iff_lt-mul, pos_of_ne-zero, div-le_self}

-- a product under the product of the bounds
pub under : (m n : ℕ) {a b : ℕ} → a ≤ m → b ≤ n → a * b ≤ m * n
under m n p q = mul-le-mul p q

-- a factor of what is above 0
pub right-pos : (a b : ℕ) → (a * b ≡ 0 → ⊥) → 0 < b
right-pos a b n = pos_of_ne-zero (λ e. n (rw (e, mul-zero)))

pub head-fits : (x h s : ℕ) → (h * s ≡ 0 → ⊥) → x % (h * s) / s < h
head-fits x h s n = (div-lt_iff_lt-mul (right-pos h s n)).1 (mod-lt x (pos_of_ne-zero n))

pub sector-fits : (x h s : ℕ) → (h * s ≡ 0 → ⊥) → x % (h * s) % s < s
sector-fits x h s n = mod-lt (x % (h * s)) (right-pos h s n)

pub quotient : (a b : ℕ) → a / b ≤ a
quotient a b = div-le_self a b
