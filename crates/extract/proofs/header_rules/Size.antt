-- Sector sizes: one set bit, and the shift. Assumes nothing.
use mathlib.Core.Path.{◌≡◌, refl, sym, ap, subst, ◌∙◌}
use mathlib.Core.Bool.{Bool, true, false}
use Prim.Native.Nat.{ℕ, zero, suc, ◌+◌, ◌*◌, ◌/◌, ◌%◌, ◌^◌, ◌≤◌, ◌<◌}
use native.Mathlib.Omega.{arith}
use native.Mathlib.Nat.{pow-suc}
use native.Mathlib.Decide.{dec_lt}
use lib.Dec.{eqb}
use lib.Count.{ones, ones_step, ones_in, count_trailing_zeros}
use borrow.Author.Tests.{eqb-true, eqb-false, ne_eqb}
use Rattle.base.specs.Pick.{pick}
use Rattle.extract.specs.Rules.{size_ok}

-- the digits set among the lowest k
abbrev pop : ℕ → ℕ → ℕ
pop zero n = 0
pop (suc k) n = n % 2 + pop k (n / 2)

ones-pop : (k n : ℕ) → n < 2 ^ k → ones n ≡ pop k n
unfolding ones ones_in
ones-pop zero n h =
    let z : n ≡ 0 = omega arith in
    rw z
ones-pop (suc k) n h =
    let p : 2 ^ suc k ≡ 2 ^ k * 2 = pow-suc 2 k in
    let q : n / 2 < 2 ^ k = omega arith in
    ones_step n ∙ ap (λ (m : ℕ). n % 2 + m) (ones-pop k (n / 2) q)

-- no digit set: zero
pop-zero : (k n : ℕ) → n < 2 ^ k → pop k n ≡ 0 → n ≡ 0
pop-zero zero n h e = omega arith
pop-zero (suc k) n h e =
    let p : 2 ^ suc k ≡ 2 ^ k * 2 = pow-suc 2 k in
    omega (arith, pop-zero k (n / 2) (omega arith) (omega arith))

-- one digit set, and not the lowest: half of the number has one
half : (k n : ℕ) → 2 ≤ n → n < 2 ^ suc k → pop (suc k) n ≡ 1 → (n ≡ 2 * (n / 2)) × (pop k (n / 2) ≡ 1)
half k n l h e = go (n % 2) refl
  where
    q : n / 2 < 2 ^ k
    q =
        let p : 2 ^ suc k ≡ 2 ^ k * 2 = pow-suc 2 k in
        omega arith

    go : (b : ℕ) → n % 2 ≡ b → (n ≡ 2 * (n / 2)) × (pop k (n / 2) ≡ 1)
    go zero z = (omega arith, omega arith)
    go (suc b) z = absurd (omega (arith, pop-zero k (n / 2) q (omega arith)))

-- the four sizes
pub size-cases : (P : ℕ → Type 0) → P 512 → P 1024 → P 2048 → P 4096 → (s : ℕ) → size_ok s ≡ true → P s
size-cases P a b c d s h = one (eqb s 512) refl h
  where
    four : (t : Bool) → eqb s 4096 ≡ t → pick t true false ≡ true → P s
    four true q e = subst P (sym (eqb-true s 4096 q)) d
    four false q e = let w : ◌≡◌ {A = ℕ} 0 1 = cc in absurd (omega arith)

    three : (t : Bool) → eqb s 2048 ≡ t → pick t true (pick (eqb s 4096) true false) ≡ true → P s
    three true q e = subst P (sym (eqb-true s 2048 q)) c
    three false q e = four (eqb s 4096) refl e

    two : (t : Bool) → eqb s 1024 ≡ t → pick t true (pick (eqb s 2048) true (pick (eqb s 4096) true false)) ≡ true → P s
    two true q e = subst P (sym (eqb-true s 1024 q)) b
    two false q e = three (eqb s 2048) refl e

    one : (t : Bool) → eqb s 512 ≡ t → pick t true (pick (eqb s 1024) true (pick (eqb s 2048) true (pick (eqb s 4096) true false))) ≡ true → P s
    one true q e = subst P (sym (eqb-true s 512 q)) a
    one false q e = two (eqb s 1024) refl e

-- of 1 to 8, those with one digit set are 1, 2, 4 and 8
eight : (m : ℕ) → 1 ≤ m → m ≤ 8 → pop 4 m ≡ 1 → size_ok (512 * m) ≡ true
eight m p q e = elim (dec_lt m 2) [
  | yes h ↦ at 1 refl (omega arith)
  | no h ↦ let a = half 3 m (omega arith) (omega arith) e in
      elim (dec_lt m 4) [
        | yes h ↦ at 2 refl (omega arith)
        | no h ↦ let b = half 2 (m / 2) (omega arith) (omega arith) a.1 in
            elim (dec_lt m 8) [ yes h ↦ at 4 refl (omega arith) | no h ↦ at 8 refl (omega arith) ]
      ]
]
  where
    at : (k : ℕ) → size_ok (512 * k) ≡ true → m ≡ k → size_ok (512 * m) ≡ true
    at k r z = rw z r

-- m doubled j times, and j more than k
abbrev doubled : ℕ → ℕ → ℕ
doubled zero m = m
doubled (suc j) m = 2 * doubled j m

abbrev more : ℕ → ℕ → ℕ
more zero k = k
more (suc j) k = suc (more j k)

doubled-one : (j : ℕ) → 1 ≤ doubled j 1
doubled-one zero = omega arith
doubled-one (suc j) = omega (arith, doubled-one j)

halves : (j k n : ℕ) → doubled j 1 ≤ n → n < 2 ^ more j k → pop (more j k) n ≡ 1 → (m : ℕ) × ((n ≡ doubled j m) × (pop k m ≡ 1))
halves zero k n l h e = (n, (refl, e))
halves (suc j) k n l h e =
    let p : 2 ^ suc (more j k) ≡ 2 ^ more j k * 2 = pow-suc 2 (more j k) in
    let a = half (more j k) n (omega (arith, doubled-one j)) h e in
    let r = halves j k (n / 2) (omega arith) (omega arith) a.1 in
    (r.0, (a.0 ∙ ap (λ (d : ℕ). 2 * d) r.1.0, r.1.1))

times : (s m : ℕ) → 512 ≤ s → s ≤ 4096 → s ≡ doubled 9 m → pop 4 m ≡ 1 → size_ok s ≡ true
times s m p q z e =
    let y : s ≡ 512 * m = omega arith in
    rw y (eight m (omega arith) (omega arith) e)

-- from 512 to 4,096, one set bit is a sector size
bit-size : (s : ℕ) → 512 ≤ s → s ≤ 4096 → s < 2 ^ 13 → pop 13 s ≡ 1 → size_ok s ≡ true
bit-size s p q l e =
    let r = halves 9 4 s p l e in
    times s r.0 p q r.1.0 r.1.1

abbrev OneBit : ℕ → Type 0
OneBit s = pop 13 s ≡ 1

size-bit : (s : ℕ) → size_ok s ≡ true → pop 13 s ≡ 1
size-bit = size-cases OneBit refl refl refl refl

pub size-ones : (s : ℕ) → 512 ≤ s → s ≤ 4096 → eqb (ones s) 1 ≡ size_ok s
size-ones s p q = rw (ones-pop 13 s l) (go (eqb (pop 13 s) 1) (size_ok s) refl refl)
  where
    l : s < 2 ^ 13
    l = omega arith

    go : (t u : Bool) → eqb (pop 13 s) 1 ≡ t → size_ok s ≡ u → t ≡ u
    go true true a b = refl
    go false false a b = refl
    go true false a b =
        let w : true ≡ false = sym (bit-size s p q l (eqb-true _ _ a)) ∙ b in
        w
    go false true a b = absurd (eqb-false _ _ a (size-bit s b))

-- any other number is none
pub size_low : (s : ℕ) → s < 512 → size_ok s ≡ false
size_low s h = simp (ne_eqb s 512 (λ e. omega arith), ne_eqb s 1024 (λ e. omega arith), ne_eqb s 2048 (λ e. omega arith), ne_eqb s 4096 (λ e. omega arith))

pub size-high : (s : ℕ) → 4096 < s → size_ok s ≡ false
size-high s h = simp (ne_eqb s 512 (λ e. omega arith), ne_eqb s 1024 (λ e. omega arith), ne_eqb s 2048 (λ e. omega arith), ne_eqb s 4096 (λ e. omega arith))

-- two to the trailing zeros of a sector size is the size
abbrev pub Shift : ℕ → Type 0
Shift s = (2 ^ count_trailing_zeros 32 s ≡ s) × (count_trailing_zeros 32 s < 13)

pub shift-size : (s : ℕ) → size_ok s ≡ true → Shift s
unfolding count_trailing_zeros
shift-size = size-cases Shift (refl, omega arith) (refl, omega arith) (refl, omega arith) (refl, omega arith)
