-- Rounding up stays in range. Assumes nothing.
use Prim.Native.Nat.{ℕ, ◌+◌, ◌*◌, ◌-◌, ◌/◌, ◌≤◌, ◌<◌, ◌^◌}
use native.Mathlib.Omega.{arith}
use native.Mathlib.Nat.{div-le_self, mul-le-mul, lt_of_le_of_lt}
use lib.Dec.{lit<}

-- sizes of rounding
pub round-small : (a n : ℕ) → a < 2 ^ 32 → 0 < n → n < 2 ^ 32 → (n - 1) / a + 1 < 2 ^ 32
round-small a n p q r =
    let h : (n - 1) / a ≤ n - 1 = div-le_self (n - 1) a in
    omega arith

pub round-fits : (a n : ℕ) → a < 2 ^ 32 → 0 < n → n < 2 ^ 32 → ((n - 1) / a + 1) * a < 2 ^ 64
round-fits a n p q r =
    let x : (n - 1) / a + 1 ≤ 4294967295 = omega (arith, round-small a n p q r) in
    let y : a ≤ 4294967295 = omega arith in
    lt_of_le_of_lt (mul-le-mul x y) (lit< tt)
