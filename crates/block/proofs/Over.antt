-- What stands where in a list with other elements laid over a part of it. Assumes nothing.
use mathlib.Core.Path.{◌≡◌, refl, sym, ap, ◌∙◌}
use mathlib.Core.List.{List, ◌++◌}
use mathlib.Core.Bool.{Bool, true, false}
use Prim.Native.Nat.{ℕ, zero, suc, ◌+◌, ◌-◌, ◌≤◌, ◌<◌}
use native.Mathlib.Omega.{arith}
use lib.Dec.{ltb}
use lib.ListN.{length, take, drop, get_or, length-append, get_or-append}
use lib.Seq.{length-take-le, get_or-take, get_or-drop, get_or-append-add, ext_get_or}
use borrow.Author.Tests.{ltb-true, ltb-false}
use Rattle.base.specs.Bytes.{plus, from, bytes_at}
use Rattle.base.specs.Put.{put}
use Rattle.base.proofs.Bytes.{plus-eq}
use Rattle.base.proofs.Put.{length-put}
use Rattle.block.specs.Block.{part}
use Rattle.block.proofs.Forth.{part-long}

module _ {A : Type 0} (z : A) (s xs : List A) (at : ℕ) (h : at + length xs ≤ length s) where
  first : length (take at s) ≡ at
  first = length-take-le at s (omega arith)

  both : length (take at s ++ xs) ≡ at + length xs
  both = length-append (take at s) xs ∙ omega (arith, first)

  pub over-before : (i : ℕ) → i < at → get_or (take at s ++ xs ++ drop (at + length xs) s) i z ≡ get_or s i z
  over-before i k =
      let p : i < length (take at s) = omega (arith, first) in
      let q : i < length (take at s ++ xs) = omega (arith, both) in
      get_or-append (take at s ++ xs) (drop (at + length xs) s) z i q ∙ get_or-append (take at s) xs z i p ∙ get_or-take at s i z k

  pub over-within : (j : ℕ) → j < length xs → get_or (take at s ++ xs ++ drop (at + length xs) s) (at + j) z ≡ get_or xs j z
  over-within j k =
      let q : at + j < length (take at s ++ xs) = omega (arith, both) in
      get_or-append (take at s ++ xs) (drop (at + length xs) s) z (at + j) q
      ∙ ap (λ (m : ℕ). get_or (take at s ++ xs) (m + j) z) (sym first)
      ∙ get_or-append-add (take at s) xs j z

  pub over-behind : (i : ℕ) → at + length xs ≤ i → get_or (take at s ++ xs ++ drop (at + length xs) s) i z ≡ get_or s i z
  over-behind i k =
      let j : ℕ = i - (at + length xs) in
      let e : i ≡ length (take at s ++ xs) + j = omega (arith, both) in
      let f : at + length xs + j ≡ i = omega arith in
      ap (λ (m : ℕ). get_or (take at s ++ xs ++ drop (at + length xs) s) m z) e
      ∙ get_or-append-add (take at s ++ xs) (drop (at + length xs) s) j z
      ∙ get_or-drop (at + length xs) s j z
      ∙ ap (λ (m : ℕ). get_or s m z) f

-- the n bytes from o on are alike
abbrev pub Alike : List ℕ → List ℕ → ℕ → ℕ → Type 0
Alike a b o n = (j : ℕ) → o ≤ j → j < o + n → get_or a j 0 ≡ get_or b j 0

module _ (s : List ℕ) (at : ℕ) (xs : List ℕ) (h : at + length xs ≤ length s) where
  pub put-before : (o n : ℕ) → o + n ≤ at → Alike (put s at xs) s o n
  unfolding put
  put-before o n k j x y = over-before 0 s xs at h j (omega arith)

  pub put-behind : (o n : ℕ) → at + length xs ≤ o → Alike (put s at xs) s o n
  unfolding put
  put-behind o n k j x y = over-behind 0 s xs at h j (omega arith)

  pub put-within : (j : ℕ) → j < length xs → get_or (put s at xs) (at + j) 0 ≡ get_or xs j 0
  unfolding put
  put-within j k = over-within 0 s xs at h j k

-- below k, from k on below k + m, or behind that
pub cases : (P : ℕ → Type 0) (k m i : ℕ) → (i < k → P i) → (k ≤ i → i < k + m → P i) → (k + m ≤ i → P i) → P i
cases P k m i x y z = go (ltb i k) (ltb i (k + m)) refl refl
  where
    go : (p q : Bool) → ltb i k ≡ p → ltb i (k + m) ≡ q → P i
    go true q e f = x (ltb-true _ _ e)
    go false true e f = y (ltb-false _ _ e) (ltb-true _ _ f)
    go false false e f = z (ltb-false _ _ f)

-- what is laid over two parts, one behind the other, can be laid in either order
module _ (s : List ℕ) (a b : ℕ) (xs ys : List ℕ) (h : a + length xs ≤ b) (k : b + length ys ≤ length s) where
  abbrev one : List ℕ
  one = put s a xs

  abbrev two : List ℕ
  two = put s b ys

  room : a + length xs ≤ length s
  room = omega arith

  m₁ : length one ≡ length s
  m₁ = length-put s a xs room

  m₂ : length two ≡ length s
  m₂ = length-put s b ys k

  k₁ : b + length ys ≤ length one
  k₁ = omega (arith, m₁)

  h₂ : a + length xs ≤ length two
  h₂ = omega (arith, m₂, room)

  abbrev Same : ℕ → Type 0
  Same i = get_or (put one b ys) i 0 ≡ get_or (put two a xs) i 0

  swap-behind : (i : ℕ) → a + length xs ≤ i → Same i
  swap-behind i u =
      let r : get_or (put two a xs) i 0 ≡ get_or two i 0 = put-behind two a xs h₂ i 1 u i (omega arith) (omega arith) in
      let o : get_or one i 0 ≡ get_or s i 0 = put-behind s a xs room i 1 u i (omega arith) (omega arith) in
      cases Same b (length ys) i
      (λ v. put-before one b ys k₁ i 1 (omega arith) i (omega arith) (omega arith) ∙ o ∙ sym (r ∙ put-before s b ys k i 1 (omega arith) i (omega arith) (omega arith)))
      (λ v w.
      let z : b + (i - b) ≡ i = omega arith in
      ap (λ (m : ℕ). get_or (put one b ys) m 0) (sym z) ∙ put-within one b ys k₁ (i - b) (omega arith)
      ∙ sym (r ∙ ap (λ (m : ℕ). get_or two m 0) (sym z) ∙ put-within s b ys k (i - b) (omega arith)))
      (λ v. put-behind one b ys k₁ i 1 v i (omega arith) (omega arith) ∙ o ∙ sym (r ∙ put-behind s b ys k i 1 v i (omega arith) (omega arith)))

  swap_at : (i : ℕ) → Same i
  swap_at i =
      cases Same a (length xs) i
      (λ u. put-before one b ys k₁ i 1 (omega arith) i (omega arith) (omega arith) ∙ put-before s a xs room i 1 (omega arith) i (omega arith) (omega arith)
      ∙ sym (put-before two a xs h₂ i 1 (omega arith) i (omega arith) (omega arith) ∙ put-before s b ys k i 1 (omega arith) i (omega arith) (omega arith)))
      (λ u v.
      let z : a + (i - a) ≡ i = omega arith in
      put-before one b ys k₁ i 1 (omega arith) i (omega arith) (omega arith) ∙ ap (λ (m : ℕ). get_or one m 0) (sym z) ∙ put-within s a xs room (i - a) (omega arith)
      ∙ sym (ap (λ (m : ℕ). get_or (put two a xs) m 0) (sym z) ∙ put-within two a xs h₂ (i - a) (omega arith)))
      (swap-behind i)

  pub put-swap : put (put s a xs) b ys ≡ put (put s b ys) a xs
  put-swap =
      ext_get_or 0 (put one b ys) (put two a xs) (length-put one b ys k₁ ∙ m₁ ∙ sym (length-put two a xs h₂ ∙ m₂)) (λ i v. swap_at i)

-- bytes that are alike make the same list
from-alike : (a b : List ℕ) (at k n : ℕ) → Alike a b (at + k) n → from a at k n ≡ from b at k n
from-alike a b at k zero f = refl
from-alike a b at k (suc n) f =
    let p : get_or a (plus at k) 0 ≡ get_or b (plus at k) 0 = rw (plus-eq at k) (f (at + k) (omega arith) (omega arith)) in
    let r : from a at (suc k) n ≡ from b at (suc k) n = from-alike a b at (suc k) n (λ j x y. f j (omega arith) (omega arith)) in
    cc

pub bytes-alike : (a b : List ℕ) (at n : ℕ) → Alike a b at n → bytes_at a at n ≡ bytes_at b at n
bytes-alike a b at n f = from-alike a b at 0 n (λ j x y. f j (omega arith) (omega arith))

pub part-zero : (b : List ℕ) (n : ℕ) → take n b ≡ part b 0 n
unfolding part
part-zero b n = refl

pub part-byte : (b : List ℕ) (at n i : ℕ) → i < n → get_or (part b at n) i 0 ≡ get_or b (at + i) 0
unfolding part
part-byte b at n i h = get_or-take n (drop at b) i 0 h ∙ get_or-drop at b i 0

pub part_moved : (a b : List ℕ) (o p n : ℕ) → o + n ≤ length a → p + n ≤ length b → ((j : ℕ) → j < n → get_or a (o + j) 0 ≡ get_or b (p + j) 0)
    → part a o n ≡ part b p n
part_moved a b o p n x y f =
    let l = part-long a o n x in
    ext_get_or 0 (part a o n) (part b p n) (l ∙ sym (part-long b p n y))
    (λ i h.
    let k : i < n = omega (arith, l) in
    part-byte a o n i k ∙ f i k ∙ sym (part-byte b p n i k))

pub part-alike : (a b : List ℕ) (o n : ℕ) → o + n ≤ length a → o + n ≤ length b → Alike a b o n → part a o n ≡ part b o n
part-alike a b o n x y f = part_moved a b o o n x y (λ j h. f (o + j) (omega arith) (omega arith))
