-- Numbers in bytes: laws over the width and the byte order. Assumes nothing.
use mathlib.Core.Path.{◌≡◌, refl, sym, ap, subst, ◌∙◌}
use mathlib.Core.List.{List, [], ◌∷◌, ◌++◌, reverse_aux, reverse-reverse}
use Prim.Native.Nat.{ℕ, zero, suc, ◌+◌, ◌*◌, ◌/◌, ◌%◌, ◌≤◌, ◌<◌}
use native.Mathlib.Nat.{add-zero}
use native.Mathlib.Numerals.{add-one}
use native.Mathlib.Omega.{arith}
use lib.ListN.{length, take, drop, get_or, replicate, length-append, length-reverse}
use lib.Seq.{drop-cons, drop_at, take_at, take-add}
use lib.Pointwise.{pointwise}
use lib.Dec.{eqb}
use mathlib.Core.Bool.{Bool, true, false, ◌&&◌}
use borrow.Author.Tests.{eqb-true, eq-eqb}
use Rattle.base.specs.Bytes.{Bytes, plus, from, bytes_at, stands_at, Order, little, big, in_order, sum, digits, number, bytes_of, top}

-- bytes of lists
pub bytes-append : (xs ys : List ℕ) → Bytes xs → Bytes ys → Bytes (xs ++ ys)
bytes-append [] ys p q = q
bytes-append (x ∷ xs) ys p q = (p.0, bytes-append xs ys p.1 q)

pub bytes-zeros : (n : ℕ) → Bytes (replicate n 0)
bytes-zeros zero = tt
bytes-zeros (suc n) = (omega arith, bytes-zeros n)

pub bytes_take : (n : ℕ) (bs : List ℕ) → Bytes bs → Bytes (take n bs)
bytes_take zero bs b = tt
bytes_take (suc n) [] b = tt
bytes_take (suc n) (x ∷ xs) b = (b.0, bytes_take n xs b.1)

pub bytes_drop : (n : ℕ) (bs : List ℕ) → Bytes bs → Bytes (drop n bs)
bytes_drop zero bs b = b
bytes_drop (suc n) [] b = tt
bytes_drop (suc n) (x ∷ xs) b = bytes_drop n xs b.1

pub byte_at : (r : List ℕ) → Bytes r → (i : ℕ) → get_or r i 0 < 256
byte_at [] b i = omega arith
byte_at (x ∷ xs) b zero = b.0
byte_at (x ∷ xs) b (suc i) = byte_at xs b.1 i

pub bytes-all : (r : List ℕ) → ((i : ℕ) → get_or r i 0 < 256) → Bytes r
bytes-all [] h = tt
bytes-all (x ∷ xs) h = (h 0, bytes-all xs (λ i. h (suc i)))

bytes-reverse_aux : (xs ys : List ℕ) → Bytes xs → Bytes ys → Bytes (reverse_aux xs ys)
bytes-reverse_aux [] ys p q = q
bytes-reverse_aux (x ∷ xs) ys p q = bytes-reverse_aux xs (x ∷ ys) p.1 (p.0, q)

-- the order changes nothing of these
pub bytes-order : (o : Order) (bs : List ℕ) → Bytes bs → Bytes (in_order o bs)
bytes-order little bs b = b
bytes-order big bs b = bytes-reverse_aux bs [] b tt

pub length-order : (o : Order) (bs : List ℕ) → length (in_order o bs) ≡ length bs
length-order little bs = refl
length-order big bs = length-reverse bs

order-twice : (o : Order) (bs : List ℕ) → in_order o (in_order o bs) ≡ bs
order-twice little bs = refl
order-twice big bs = reverse-reverse bs

length_digits : (n v : ℕ) → length (digits n v) ≡ n
length_digits zero v = refl
length_digits (suc n) v = ap suc (length_digits n (v / 256))

bytes-digits : (n v : ℕ) → Bytes (digits n v)
bytes-digits zero v = tt
bytes-digits (suc n) v = (omega arith, bytes-digits n (v / 256))

sum-digits : (n v : ℕ) → v < top n → sum (digits n v) ≡ v
sum-digits zero v h = omega arith
sum-digits (suc n) v h =
    let p : v / 256 < top n = omega arith in
    omega (arith, sum-digits n (v / 256) p)

sum_below : (bs : List ℕ) → Bytes bs → sum bs < top (length bs)
sum_below [] b = omega arith
sum_below (x ∷ xs) b = omega (arith, sum_below xs b.1, b.0)

digits_sum : (bs : List ℕ) → Bytes bs → digits (length bs) (sum bs) ≡ bs
digits_sum [] b = refl
digits_sum (x ∷ xs) b =
    let p : (x + 256 * sum xs) % 256 ≡ x = omega (arith, b.0) in
    let q : (x + 256 * sum xs) / 256 ≡ sum xs = omega (arith, b.0) in
    rw (p, q, digits_sum xs b.1)

-- the laws
pub length-bytes_of : (o : Order) (n v : ℕ) → length (bytes_of o n v) ≡ n
length-bytes_of o n v = length-order o (digits n v) ∙ length_digits n v

pub bytes-bytes_of : (o : Order) (n v : ℕ) → Bytes (bytes_of o n v)
bytes-bytes_of o n v = bytes-order o (digits n v) (bytes-digits n v)

-- a number's bytes read back
pub number-bytes_of : (o : Order) (n v : ℕ) → v < top n → number o (bytes_of o n v) ≡ v
number-bytes_of o n v h = ap sum (order-twice o (digits n v)) ∙ sum-digits n v h

pub number-below : (o : Order) (bs : List ℕ) → Bytes bs → number o bs < top (length bs)
number-below o bs b = subst (λ (n : ℕ). number o bs < top n) (length-order o bs) (sum_below (in_order o bs) (bytes-order o bs b))

-- bytes are those of their number
pub bytes_of-number : (o : Order) (bs : List ℕ) → Bytes bs → bytes_of o (length bs) (number o bs) ≡ bs
bytes_of-number o bs b =
    ap (λ (n : ℕ). bytes_of o n (number o bs)) (sym (length-order o bs)) ∙ ap (in_order o) (digits_sum (in_order o bs) (bytes-order o bs b)) ∙ order-twice o bs

-- a big-endian number
pub big-example : number big (1 ∷ 2 ∷ 3 ∷ 4 ∷ []) ≡ 16909060
big-example = refl

pub big-bytes : bytes_of big 2 513 ≡ 2 ∷ 1 ∷ []
big-bytes = refl

pub plus-eq : (at k : ℕ) → plus at k ≡ at + k
plus-eq at zero = sym (add-zero at)
plus-eq at (suc k) = refl

-- the bytes at a place are that part of the list
from-part : (s : List ℕ) (at k n : ℕ) → at + k + n ≤ length s → from s at k n ≡ take n (drop (at + k) s)
from-part s at k zero h = refl
from-part s at k (suc n) h =
    let p : at + k < length s = omega arith in
    let e : plus at k ≡ at + k = plus-eq at k in
    let f : at + suc k ≡ suc (at + k) = omega arith in
    rw (drop-cons s (at + k) 0 p, e) (ap (◌∷◌ (get_or s (at + k) 0)) (from-part s at (suc k) n (omega arith) ∙ rw f))

pub bytes_at-part : (s : List ℕ) (at n : ℕ) → at + n ≤ length s → bytes_at s at n ≡ take n (drop at s)
bytes_at-part s at n h = from-part s at 0 n (omega arith) ∙ rw add-zero

-- a part that stands in a list is the bytes at its place
pub part-within : (s p xs q : List ℕ) (at n : ℕ) → s ≡ p ++ (xs ++ q) → length p ≡ at → length xs ≡ n → bytes_at s at n ≡ xs
part-within s p xs q at n e a b =
    let h : at + n ≤ length s = omega (arith, ap length e, length-append p (xs ++ q), length-append xs q) in
    bytes_at-part s at n h ∙ rw (e, drop_at p (xs ++ q) at a, take_at xs q n b)

-- two neighbouring parts of a list, joined
pub parts_join : (s x y : List ℕ) (a b c : ℕ) → x ≡ take a s → y ≡ take b (drop a s) → a + b ≡ c → x ++ y ≡ take c s
parts_join s x y a b c e f g = rw (e, f, ← g) (sym (take-add a b s))

pub both_true : (a b : Bool) → (a && b) ≡ true → (a ≡ true) × (b ≡ true)
both_true true b h = (refl, h)
both_true false b h = let w : ◌≡◌ {A = ℕ} 0 1 = cc in absurd (omega arith)

-- a word stands at a place exactly when the bytes there are it
stands_from : (s : List ℕ) (at k : ℕ) (w : List ℕ) → stands_at s (at + k) w ≡ true → from s at k (length w) ≡ w
stands_from s at k [] h = refl
stands_from s at k (x ∷ xs) h =
    let p = both_true (eqb (get_or s (at + k) 0) x) (stands_at s (at + k + 1) xs) h in
    let f : at + k + 1 ≡ at + suc k = omega arith in
    let g : get_or s (at + k) 0 ≡ x = eqb-true (get_or s (at + k) 0) x p.0 in
    rw (plus-eq at k, g) (ap (◌∷◌ x) (stands_from s at (suc k) xs (rw f at p.1)))

pub stands-bytes : (s : List ℕ) (at : ℕ) (w : List ℕ) → stands_at s at w ≡ true → bytes_at s at (length w) ≡ w
stands-bytes s at w h = stands_from s at 0 w (rw add-zero h)

from-stands : (s : List ℕ) (at k : ℕ) (w : List ℕ) → from s at k (length w) ≡ w → stands_at s (at + k) w ≡ true
from-stands s at k [] h = refl
from-stands s at k (x ∷ xs) h =
    let p : get_or s (plus at k) 0 ≡ x = cc in
    let q : from s at (suc k) (length xs) ≡ xs = cc in
    let f : at + k + 1 ≡ at + suc k = omega arith in
    rw (eq-eqb (get_or s (at + k) 0) x (rw (plus-eq at k) at p), f) (from-stands s at (suc k) xs q)

pub bytes-stand : (s : List ℕ) (at : ℕ) (w : List ℕ) → bytes_at s at (length w) ≡ w → stands_at s at w ≡ true
bytes-stand s at w h = rw add-zero at (from-stands s at 0 w h)

-- a part of a list compared with a word
pub part-stands : (s : List ℕ) (at : ℕ) (w : List ℕ) → at + length w ≤ length s → pointwise eqb (take (length w) (drop at s)) w ≡ stands_at s at w
part-stands s at [] h = refl
part-stands s at (x ∷ w) h =
    let e : drop (at + 1) s ≡ drop (suc at) s = rw (add-one at) in
    rw (drop-cons s at 0 (omega arith), ← e, part-stands s (at + 1) w (omega arith))
