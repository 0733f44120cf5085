-- The list without one of its elements. Assumes nothing.
use mathlib.Core.Path.{◌≡◌, ap, ◌∙◌}
use mathlib.Core.List.{List, ◌++◌}
use Prim.Native.Nat.{ℕ, ◌+◌, ◌-◌, ◌≤◌, ◌<◌}
use native.Mathlib.Omega.{arith}
use lib.ListN.{length, take, drop, length-drop}
use lib.Seq.{paste, take-paste, take-take, take-add, drop_at, length-take-le}

module _ {A : Type 0} where
  drop-take : (m n : ℕ) (l : List A) → m ≤ length l → drop m (take (m + n) l) ≡ take n (drop m l)
  drop-take m n l h = rw take-add (drop_at (take m l) (take n (drop m l)) m (length-take-le m l h))

  -- the first c elements, without number i
  pub gone : (l : List A) (i c : ℕ) → i < c → c ≤ length l
      → take (c - 1) (paste l i (drop (i + 1) l) (c - 1 - i)) ≡ take i (take c l) ++ drop (i + 1) (take c l)
  gone l i c h k =
      let n = c - 1 - i in
      let z : c - 1 ≡ i + n = omega arith in
      let y : c ≡ i + 1 + n = omega arith in
      let p : i ≤ length l = omega arith in
      let q : n ≤ length (drop (i + 1) l) = simp length-drop (omega arith) in
      let r : i ≤ c = omega arith in
      let s : i + 1 ≤ length l = omega arith in
      let e : take (c - 1) (paste l i (drop (i + 1) l) n) ≡ take i l ++ take n (drop (i + 1) l) =
      ap (λ (m : ℕ). take m (paste l i (drop (i + 1) l) n)) z ∙ take-paste l i (drop (i + 1) l) n p q in
      let f : drop (i + 1) (take c l) ≡ take n (drop (i + 1) l) =
      ap (λ (m : ℕ). drop (i + 1) (take m l)) y ∙ drop-take (i + 1) n l s in
      e ∙ rw (take-take i c l r, f)
