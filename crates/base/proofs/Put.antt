-- Laws of `put`, of stores one by one, and of copies. Assumes nothing.
use mathlib.Core.Path.{◌≡◌, refl, sym, ap, ◌∙◌}
use mathlib.Core.List.{List, [], ◌∷◌, ◌++◌, append_assoc, append-nil}
use Prim.Native.Nat.{ℕ, suc, ◌+◌, ◌≤◌}
use native.Mathlib.Nat.{add-zero, add-suc, add_assoc}
use native.Mathlib.Omega.{arith}
use lib.ListN.{length, take, drop, set, length-append, length-drop, take-append-drop, drop_of_length-le}
use lib.Seq.{sets, sets-eq, length-take-le, take_at, drop-append-add, drop-drop, take-length}
use borrow.Rule.Slice.PartMut.{put_mid}
use Rattle.std.proofs.lemmas.Slice.{put_mid-paste}
use Rattle.base.specs.Bytes.{plus}
use Rattle.base.specs.Put.{put, over, laid}
use Rattle.base.proofs.Bytes.{plus-eq}

over-sets : (s : List ℕ) (at k : ℕ) (vs : List ℕ) → over s at k vs ≡ sets s (at + k) vs
over-sets s at k [] = refl
over-sets s at k (v ∷ vs) = rw (over-sets (set s (plus at k) v) at (suc k) vs, plus-eq, add-suc)

-- stores one by one are a part replaced
pub laid-put : (s : List ℕ) (at : ℕ) (vs : List ℕ) → at + length vs ≤ length s → laid s at vs ≡ put s at vs
unfolding put
laid-put s at vs h = over-sets s at 0 vs ∙ rw add-zero (sets-eq vs s at h)

module _ (s : List ℕ) (at : ℕ) (xs : List ℕ) (h : at + length xs ≤ length s) where
  head-length : length (take at s ++ xs) ≡ at + length xs
  head-length =
      let p : at ≤ length s = omega arith in
      length-append (take at s) xs ∙ ap (λ (n : ℕ). n + length xs) (length-take-le at s p)

  pub length-put : length (put s at xs) ≡ length s
  unfolding put
  length-put = rw (length-append, head-length, length-drop) (omega arith)

  -- a second part right behind the first
  pub put-put : (ys : List ℕ) → put (put s at xs) (at + length xs) ys ≡ put s at (xs ++ ys)
  unfolding put
  put-put ys =
      let p = take at s ++ xs in
      let q = drop (at + length xs) s in
      let e : take (at + length xs) (p ++ q) ≡ p = take_at p q (at + length xs) head-length in
      let f : drop (at + length xs + length ys) (p ++ q) ≡ drop (length ys) q =
      ap (λ (n : ℕ). drop (n + length ys) (p ++ q)) (sym head-length) ∙ drop-append-add p q (length ys) in
      rw (e, f, drop-drop, append_assoc (take at s) xs ys, length-append, ← add_assoc)

-- nothing put
pub put-none : (d : List ℕ) (at : ℕ) → put d at [] ≡ d
unfolding put
put-none d at = rw (append-nil (take at d), add-zero at) (take-append-drop at d)

-- a list of the same length put over all of another
pub put_whole : (d v : List ℕ) → length d ≡ length v → put d 0 v ≡ v
unfolding put
put_whole d v e =
    let h : length d ≤ 0 + length v = omega arith in
    ap (λ l. v ++ l) (drop_of_length-le d h) ∙ append-nil v

-- the first n elements put over all of a list of n
pub put_front : (d e s : List ℕ) (n : ℕ) → length d ≡ n → n ≤ length s → e ≡ put d 0 (take n s) → e ≡ take n s
put_front d e s n l h p = p ∙ put_whole d (take n s) (l ∙ sym (length-take-le n s h))

-- ys right behind xs, which are n
pub behind : (d e f : List ℕ) (at n : ℕ) (xs ys : List ℕ) → length xs ≡ n → at + n ≤ length d → e ≡ put d at xs → f ≡ put e (at + n) ys → f ≡ put d at (xs ++ ys)
behind d e f at n xs ys l h p q =
    let k : at + length xs ≤ length d = omega arith in
    q ∙ rw (p, ← l) (put-put d at xs k ys)

-- a part of a list that is borrowed, and now holds other elements
pub part-put : (s vs ys : List ℕ) (at k : ℕ) → ys ≡ vs → k ≡ length vs → put_mid at k s ys ≡ put s at vs
unfolding put
part-put s vs ys at k e h = put_mid-paste at k s ys vs (length vs) e (sym h) refl ∙ rw take-length
