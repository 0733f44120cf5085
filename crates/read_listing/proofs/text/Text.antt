-- Laws of numbers as text. Assumes nothing.
use mathlib.Core.Path.{◌≡◌, refl, ap, ◌∙◌}
use mathlib.Core.List.{List, [], ◌∷◌, ◌++◌}
use mathlib.Core.Bool.{Bool, true, false}
use Prim.Native.Nat.{ℕ, zero, suc, ◌+◌, ◌*◌, ◌/◌, ◌%◌, ◌^◌, ◌≤◌, ◌<◌}
use native.Mathlib.Omega.{arith}
use lib.Dec.{ltb}
use lib.ListN.{length, length-append}
use borrow.Author.Tests.{lt-ltb, le-ltb, ltb-true, ltb-false}
use Rattle.base.specs.Pick.{pick}
use Rattle.base.specs.Put.{put}
use Rattle.base.proofs.Put.{behind}
use Rattle.read_listing.specs.Text.{decimal_in, decimal, hex_digit, hex, space}

-- more room for digits than needed changes nothing
enough : (k m n : ℕ) → n ≤ k → n ≤ m → decimal_in k n ≡ decimal_in m n
unfolding decimal_in
enough zero zero n p q = refl
enough zero (suc m) n p q = rw (lt-ltb n 10 (omega arith))
enough (suc k) zero n p q = rw (lt-ltb n 10 (omega arith))
enough (suc k) (suc m) n p q = go (ltb n 10) refl (λ r s. enough k m (n / 10) r s)
  where
    go : (b : Bool) → ltb n 10 ≡ b → (n / 10 ≤ k → n / 10 ≤ m → decimal_in k (n / 10) ≡ decimal_in m (n / 10))
        → pick b ((48 + n % 10) ∷ []) (decimal_in k (n / 10) ++ ((48 + n % 10) ∷ [])) ≡ pick b ((48 + n % 10) ∷ []) (decimal_in m (n / 10) ++ ((48 + n % 10) ∷ []))
    go true e ih = refl
    go false e ih =
        let h : 10 ≤ n = ltb-false n 10 e in
        rw (ih (omega arith) (omega arith))

pub decimal-one : (n : ℕ) → n < 10 → decimal n ≡ (48 + n % 10) ∷ []
unfolding decimal decimal_in
decimal-one zero h = refl
decimal-one (suc n) h = rw (lt-ltb (suc n) 10 h)

pub decimal-more : (n : ℕ) → 10 ≤ n → decimal n ≡ decimal (n / 10) ++ ((48 + n % 10) ∷ [])
unfolding decimal decimal_in
decimal-more zero h = absurd (omega arith)
decimal-more (suc n) h = rw (le-ltb (suc n) 10 h, enough n (suc n / 10) (suc n / 10) (omega arith) (omega arith))

pub length_more : (v : ℕ) → 10 ≤ v → length (decimal v) ≡ length (decimal (v / 10)) + 1
length_more v h = ap length (decimal-more v h) ∙ length-append (decimal (v / 10)) ((48 + v % 10) ∷ [])

-- one digit behind the others
pub digit-behind : (d e f : List ℕ) (at v : ℕ) → 10 ≤ v → at + length (decimal v) ≤ length d → e ≡ put d at (decimal (v / 10))
    → f ≡ put e (at + length (decimal (v / 10))) ((48 + v % 10) ∷ []) → f ≡ put d at (decimal v)
digit-behind d e f at v h k p q =
    let n : length (decimal v) ≡ length (decimal (v / 10)) + 1 = length_more v h in
    behind d e f at (length (decimal (v / 10))) (decimal (v / 10)) ((48 + v % 10) ∷ []) refl (omega arith) p q ∙ rw (decimal-more v h)

pub length-one : (v : ℕ) → v < 10 → length (decimal v) ≡ 1
length-one v h = ap length (decimal-one v h)

-- k digits hold what is below 10 ^ k
pub decimal-short : (k n : ℕ) → n < 10 * 10 ^ k → length (decimal n) ≤ suc k
decimal-short zero n h = omega (arith, length-one n (omega arith))
decimal-short (suc k) n h = go (ltb n 10) refl (λ p. decimal-short k (n / 10) p)
  where
    go : (b : Bool) → ltb n 10 ≡ b → (n / 10 < 10 * 10 ^ k → length (decimal (n / 10)) ≤ suc k) → length (decimal n) ≤ suc (suc k)
    go true e ih = omega (arith, length-one n (ltb-true n 10 e))
    go false e ih =
        let p : 10 ≤ n = ltb-false n 10 e in
        omega (arith, length_more n p, ih (omega arith))

-- a space and two hex digits
pub hex-written : (d d₁ d₂ d₃ : List ℕ) (at b : ℕ) → at + 3 ≤ length d → d₁ ≡ put d at space → d₂ ≡ put d₁ (at + 1) (hex_digit (b / 16) ∷ [])
    → d₃ ≡ put d₂ (at + 2) (hex_digit (b % 16) ∷ []) → d₃ ≡ put d at (space ++ hex b)
hex-written d d₁ d₂ d₃ at b h e₁ e₂ e₃ =
    let f₂ : d₂ ≡ put d at (space ++ (hex_digit (b / 16) ∷ [])) = behind d d₁ d₂ at 1 space (hex_digit (b / 16) ∷ []) refl (omega arith) e₁ e₂ in
    behind d d₂ d₃ at 2 (space ++ (hex_digit (b / 16) ∷ [])) (hex_digit (b % 16) ∷ []) refl (omega arith) f₂ e₃

-- a u32 has at most ten digits
pub ten : (v : ℕ) → v < 2 ^ 32 → length (decimal v) ≤ 10
ten v h = decimal-short 9 v (omega arith)

-- text written from one place to the next
pub record Written (d e : List ℕ) (at p : ℕ) (xs : List ℕ) : Type 0 where
  pub place : p ≡ at + length xs
  pub bytes : e ≡ put d at xs

pub then : (d e f : List ℕ) (at p q : ℕ) (xs ys : List ℕ) → Written d e at p xs → p ≤ length d → q ≡ p + length ys → f ≡ put e p ys → Written d f at q (xs ++ ys)
then d e f at p q xs ys w h g k =
    let n : length (xs ++ ys) ≡ length xs + length ys = length-append xs ys in
    let b : at + length xs ≤ length d = omega (arith, w.place) in
    record {
      place = omega (arith, w.place);
      bytes = behind d e f at (length xs) xs ys refl b w.bytes (k ∙ rw w.place);
    }
