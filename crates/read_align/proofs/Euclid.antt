-- Laws of the greatest common divisor: that there is only one, Euclid's steps, and that the alignment is a divisor of it. Assumes nothing.
use mathlib.Core.Path.{◌≡◌, refl, sym, ◌∙◌}
use mathlib.Core.List.{List, [], ◌∷◌}
use mathlib.Core.Bool.{Bool, true, false, ◌&&◌}
use Rattle.std.specs.Prelude.{Some}
use Prim.Native.Nat.{ℕ, zero, suc, ◌+◌, ◌%◌, ◌∣◌, ◌≤◌, ◌<◌, min, max}
use native.Mathlib.Nat.{zero-mod, mod_self, mod-one, mod-eq_of_lt, dvd_refl, dvd-zero, dvd-mod_iff, dvd_antisymm, dvd_trans, mod-eq-zero_of_dvd, dvd_of_mod-eq-zero}
use native.Mathlib.Omega.{arith}
use native.Mathlib.Numerals.{add-one}
use native.Mathlib.Decide.{dec_lt}
use lib.Dec.{eqb}
use lib.ListN.{length, get_or, drop, drop_of_length-le}
use lib.Seq.{drop-cons}
use borrow.Author.Tests.{eq-eqb, ne_eqb, eqb-true, eqb-false}
use Rattle.base.specs.Said.{gives, refuses}
use Rattle.table.specs.Table.{greatest_align}
use Rattle.read_align.specs.Align.{divides_all, largest_start, divisor_to, alignment}
use Rattle.read_align.specs.Divisor.{Greatest, SameDivisors}
use Rattle.read_align.proofs.Laws.{divisor-hit, divisor-none, divisor-from}

-- no second number is the greatest common divisor
pub greatest-unique : (g h a b : ℕ) → Greatest g a b → Greatest h a b → g ≡ h
greatest-unique g h a b x y = dvd_antisymm (y.greatest g x.first x.second) (x.greatest h y.first y.second)

-- Euclid's rule: of a number and 0 it is that number; else it is that of the second and the remainder
pub greatest-zero : (a b : ℕ) → b ≡ 0 → Greatest a a b
greatest-zero a b e = rw e (record { first = dvd_refl a; second = dvd-zero a; greatest = λ d p q. p })

pub greatest-more : (g a b : ℕ) → Greatest g b (a % b) → Greatest g a b
greatest-more g a b x = record { first = (dvd-mod_iff g x.first).0 x.second; second = x.first; greatest = λ d p q. x.greatest d q ((dvd-mod_iff d q).1 p) }

-- a remainder of 0 is tested
divided : (d n : ℕ) → eqb (n % d) 0 ≡ true → d ∣ n
divided d n e = dvd_of_mod-eq-zero d (eqb-true (n % d) 0 e)

undivided : (d n : ℕ) → (d ∣ n → ⊥) → eqb (n % d) 0 ≡ false
undivided d n h = ne_eqb (n % d) 0 (λ e. h (dvd_of_mod-eq-zero d e))

-- the numbers that divide the greatest common divisor are those that divide both
both : (g a b d : ℕ) → Greatest g a b → eqb (g % d) 0 ≡ (eqb (a % d) 0 && eqb (b % d) 0)
both g a b d h = go (eqb (a % d) 0) (eqb (b % d) 0) refl refl
  where
    go : (x y : Bool) → eqb (a % d) 0 ≡ x → eqb (b % d) 0 ≡ y → eqb (g % d) 0 ≡ (x && y)
    go true true p q = eq-eqb (g % d) 0 (mod-eq-zero_of_dvd d (h.greatest d (divided d a p) (divided d b q)))
    go true false p q = undivided d g (λ z. eqb-false (b % d) 0 q (mod-eq-zero_of_dvd d (dvd_trans d z h.second)))
    go false y p q = undivided d g (λ z. eqb-false (a % d) 0 p (mod-eq-zero_of_dvd d (dvd_trans d z h.first)))

-- the starts reduced one by one: every number divides the 0 that it begins with
pub common-first : (ss : List ℕ) (d : ℕ) → divides_all d (0 ∷ ss) ≡ divides_all d ss
unfolding divides_all
common-first ss d = rw (zero-mod d)

pub common-turn : (g h : ℕ) (ss : List ℕ) (i d : ℕ) → i < length ss → Greatest h (get_or ss i 0) g → divides_all d (g ∷ drop i ss) ≡ divides_all d (h ∷ drop (i + 1) ss)
unfolding divides_all
common-turn g h ss i d b x = rw (drop-cons ss i 0 b, add-one i, both h (get_or ss i 0) g d x) (turned (eqb (get_or ss i 0 % d) 0) (eqb (g % d) 0) (divides_all d (drop (suc i) ss)))
  where
    turned : (x y z : Bool) → (y && (x && z)) ≡ ((x && y) && z)
    turned true true z = refl
    turned true false z = refl
    turned false true z = refl
    turned false false z = refl

pub common-last : (g : ℕ) (ss : List ℕ) (i d : ℕ) → length ss ≤ i → divides_all d (g ∷ drop i ss) ≡ divides_all d (g ∷ [])
common-last g ss i d h = rw (drop_of_length-le ss h)

-- the search of one number: it divides itself, and no number above does
pub tried : (n k : ℕ) → n % k ≡ 0 → divides_all k (n ∷ []) ≡ true
unfolding divides_all
tried n k e = rw e

pub tried-not : (n k : ℕ) → (n % k ≡ 0 → ⊥) → divides_all k (n ∷ []) ≡ false
unfolding divides_all
tried-not n k e = rw (ne_eqb (n % k) 0 e)

none_above : (n k : ℕ) → 0 < n → n < k → divides_all k (n ∷ []) ≡ false
none_above n k p h = tried-not n k (λ e. (let m : n % k ≡ n = mod-eq_of_lt h in omega arith))

pub one-tried : (n k : ℕ) → (n % k ≡ 0 → ⊥) → k ≡ 1 → ⊥
one-tried n k h e = h (rw e (mod-one n))

pub divisor-itself : (n : ℕ) → 0 < n → n ≤ greatest_align → divisor_to greatest_align (n ∷ []) ≡ Some n
divisor-itself n p h = divisor-from greatest_align n (n ∷ []) h (λ j a b. none_above n j p a) ∙ divisor-hit n (n ∷ []) p (tried n n (mod_self n))

-- starts that a number above them divides are all 0, and every number divides zeros
all-zero : (n : ℕ) (ss : List ℕ) → largest_start ss < n → divides_all n ss ≡ true → largest_start ss ≡ 0
unfolding divides_all largest_start
all-zero n [] h e = refl
all-zero n (s ∷ ss) h e = go (eqb (s % n) 0) refl (all-zero n ss (omega arith)) e
  where
    go : (b : Bool) → eqb (s % n) 0 ≡ b → (divides_all n ss ≡ true → largest_start ss ≡ 0) → (b && divides_all n ss) ≡ true → max s (largest_start ss) ≡ 0
    go true q ih e =
        let z : s % n ≡ 0 = eqb-true (s % n) 0 q in
        let m : s % n ≡ s = mod-eq_of_lt (omega arith) in
        let l : largest_start ss ≡ 0 = ih e in
        omega arith
    go false q ih e = let w : ◌≡◌ {A = ℕ} 0 1 = cc in absurd (omega arith)

zeros-divided : (n : ℕ) (ss : List ℕ) → largest_start ss ≡ 0 → divides_all n ss ≡ true
unfolding divides_all largest_start
zeros-divided n [] h = refl
zeros-divided n (s ∷ ss) h = let z : s ≡ 0 = omega arith in rw (z, zero-mod n) (zeros-divided n ss (omega arith))

-- the greatest common divisor, if not 0, is not above the largest start
not-above : (g : ℕ) (ss : List ℕ) → 0 < g → SameDivisors g ss → g ≤ largest_start ss
not-above g ss p same = elim (dec_lt (largest_start ss) g) [
  | yes h ↦ (let z : largest_start ss ≡ 0 = all-zero g ss h (sym (same g) ∙ tried g g (mod_self g)) in
      let e : true ≡ false = sym (zeros-divided (suc g) ss z) ∙ sym (same (suc g)) ∙ none_above g (suc g) p (omega arith) in
      let w : ◌≡◌ {A = ℕ} 0 1 = cc in
      absurd (omega arith))
  | no h ↦ omega arith
]

-- the largest divisor of all starts is that of the one number
divisor-same : (n g : ℕ) (ss : List ℕ) → SameDivisors g ss → divisor_to n ss ≡ divisor_to n (g ∷ [])
unfolding divisor_to
divisor-same zero g ss same = refl
divisor-same (suc n) g ss same = rw (same (suc n), divisor-same n g ss same)

pub align-some : (ss : List ℕ) (g k : ℕ) → (length ss ≡ 0 → ⊥) → SameDivisors g ss → 0 < g → divisor_to greatest_align (g ∷ []) ≡ Some k → alignment ss ≡ gives k
unfolding alignment
align-some [] g k h same p e = absurd (h refl)
align-some (s ∷ ss) g k h same p e =
    let l : ℕ = largest_start (s ∷ ss) in
    let a : g ≤ l = not-above g (s ∷ ss) p same in
    let f : divisor_to greatest_align (g ∷ []) ≡ divisor_to (min greatest_align l) (g ∷ []) =
    divisor-from greatest_align (min greatest_align l) (g ∷ []) (omega arith) (λ j b c. none_above g j p (omega arith)) in
    rw (divisor-same (min greatest_align l) g (s ∷ ss) same ∙ sym f ∙ e)

pub align-seven : (ss : List ℕ) (g : ℕ) → (length ss ≡ 0 → ⊥) → SameDivisors g ss → g ≡ 0 → alignment ss ≡ refuses 7
unfolding alignment
align-seven [] g h same e = absurd (h refl)
align-seven (s ∷ ss) g h same e =
    let l : ℕ = largest_start (s ∷ ss) in
    let t : divides_all (suc l) (s ∷ ss) ≡ true = sym (same (suc l)) ∙ tried g (suc l) (rw e (zero-mod (suc l))) in
    let z : l ≡ 0 = all-zero (suc l) (s ∷ ss) (omega arith) t in
    rw (divisor-none (min greatest_align l) (s ∷ ss) (omega arith))
