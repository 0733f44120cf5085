-- On a sound table the two comparisons of refusal 21 say that nothing stands in the way of a new partition. Assumes nothing.
use mathlib.Core.Path.{◌≡◌, refl}
use mathlib.Core.Logic.{◌⊎◌, inl, inr}
use Rattle.std.specs.Prelude.{None, Some}
use mathlib.Core.Bool.{Bool, true, false, ◌&&◌}
use mathlib.Core.List.{List, [], ◌∷◌}
use Prim.Native.Nat.{ℕ, ◌≤◌, ◌<◌}
use native.Mathlib.Omega.{arith}
use lib.Dec.{leb}
use lib.ListN.{take, drop}
use borrow.Author.Tests.{leb-true, leb-false, le-leb, lt-leb}
use Rattle.base.specs.Row.{next, Row}
use Rattle.record_entry.specs.declared.MBRPartitionEntry.{MBRPartitionEntry}
use Rattle.record_entry.specs.Entry.{end_of}
use Rattle.table.specs.declared.LogicalPartition.{LogicalPartition}
use Rattle.chain.specs.Facts.{at, start}
use Rattle.sound.specs.Is.{Is}
use Rattle.sound.specs.Sound.{Contents, extended_entry, end, bound, Sound}
use Rattle.sound.proofs.Is.{is_le, is-and, is-as}
use Rattle.sound.proofs.Good.{Place, Good, zone-end, vacant-end, sound-row}
use Rattle.careful_stores.specs.Order.{up_to, order_at, earlier_one, behind_at, last_logical}
use Rattle.careful.specs.Gap.{Any, Overlaps, OnEbr, Parts, Blocked, in_gap}
use Rattle.careful.proofs.Places.{Fit, good-fit, fit_of, Over, row-over}

-- the comparison is made, and its fact kept
le-or : (m n : ℕ) (A : Type 0) → (m ≤ n → A) → (n < m → A) → A
le-or m n A f g = go (leb m n) refl
  where
    go : (b : Bool) → leb m n ≡ b → A
    go true q = f (leb-true m n q)
    go false q = g (leb-false m n q)

module _ (hi p e : ℕ) (ahead : p < e) (room : e ≤ hi) where
  abbrev Way : LogicalPartition → Type 0
  Way l = Overlaps p e l ⊎ (OnEbr p e l ⊎ Parts p l)

  -- one that ends by p is not in the way
  under : (l : LogicalPartition) (n : ℕ) → at l < end l → end_of l.partition ≤ end l → end l ≤ p → ¬ (Way l)
  under l n a c h (inl o) = omega (arith, o.low, o.inside.high)
  under l n a c h (inr (inl o)) = omega (arith, o.low)
  under l n a c h (inr (inr o)) = omega (arith, o.high)

  -- nor are those whose EBR is at e or behind it
  over : (ls : List LogicalPartition) → Row (Fit hi) ls None → Row (Over e) ls None → ¬ (Any Way ls)
  over [] f o k = k
  over (l ∷ ls) f o (inl (inl w)) = omega (arith, f.0.inner w.sector w.inside, w.high, o.0)
  over (l ∷ ls) f o (inl (inr (inl w))) = omega (arith, w.high, o.0)
  over (l ∷ ls) f o (inl (inr (inr w))) = omega (arith, w.low, o.0)
  over (l ∷ ls) f o (inr k) = over ls f.1 o.1 k

  -- one that ends behind p is, where p is not before its EBR
  here : (l : LogicalPartition) → Place l → at l ≤ p → p < end l → Way l
  here l (inl z) low high =
      le-or (start l) p (Way l)
      (λ h. inl (record { sector = p; low = omega arith; high = ahead; inside = record { low = h; high = omega (arith, zone-end l z) } }))
      (λ h. inr (inr (record { low = low; high = h })))
  here l (inr v) low high = inr (inl (record { low = omega (arith, vacant-end l v); high = omega arith }))

  -- the two comparisons of the list behind its first
  abbrev test : LogicalPartition → List LogicalPartition → Bool
  test l ls = leb (end (last_logical l (take (up_to p ls) ls))) p && leb e (bound hi (next (drop (up_to p ls) ls) None))

  first-or : (l : LogicalPartition) (ls : List LogicalPartition) → Good hi l (next ls None) → ¬ (Blocked p e (l ∷ ls)) → end l ≤ p
  first-or l ls g k =
      le-or (end l) p (end l ≤ p) (λ h. h)
      (λ h. absurd (le-or (at l) p ⊥ (λ i. k (inr (inl (here l g.place i h)))) (λ i. k (inl i))))

  alone : (l : LogicalPartition) → Row (Good hi) (l ∷ []) None → Is (¬ (Blocked p e (l ∷ []))) (test l [])
  unfolding up_to last_logical
  alone l g =
      let f : Fit hi l None = good-fit hi l None g.0 in
      is-as ((end l ≤ p) × (e ≤ hi)) (¬ (Blocked p e (l ∷ []))) (test l []) (λ h. free f h) (λ k. (first-or l [] g.0 k, room))
      (is-and (end l ≤ p) (e ≤ hi) (leb (end l) p) (leb e hi) (is_le (end l) p) (is_le e hi))
    where
      free : Fit hi l None → (end l ≤ p) × (e ≤ hi) → ¬ (Blocked p e (l ∷ []))
      free f h (inl b) = omega (arith, f.above, h.0)
      free f h (inr (inl w)) = under l 0 f.above f.cover h.0 w
      free f h (inr (inr k)) = k

  -- the next EBR is behind p: the new one would stand behind the first
  stands : (l m : LogicalPartition) (ms : List LogicalPartition) → Row (Good hi) (l ∷ m ∷ ms) None → p < at m
      → Is (¬ (Blocked p e (l ∷ m ∷ ms))) (leb (end l) p && leb e (at m))
  stands l m ms g h =
      let f : Row (Fit hi) (l ∷ m ∷ ms) None = fit_of hi (l ∷ m ∷ ms) None g in
      is-as ((end l ≤ p) × (e ≤ at m)) (¬ (Blocked p e (l ∷ m ∷ ms))) (leb (end l) p && leb e (at m)) (λ k. free f k)
      (λ k. (first-or l (m ∷ ms) g.0 k, le-or e (at m) (e ≤ at m) (λ i. i) (λ i. absurd (k (inr (inr (inl (inr (inl (record { low = omega arith; high = i }))))))))))
      (is-and (end l ≤ p) (e ≤ at m) (leb (end l) p) (leb e (at m)) (is_le (end l) p) (is_le e (at m)))
    where
      free : Row (Fit hi) (l ∷ m ∷ ms) None → (end l ≤ p) × (e ≤ at m) → ¬ (Blocked p e (l ∷ m ∷ ms))
      free f k (inl b) = omega (arith, f.0.above, k.0)
      free f k (inr (inl w)) = under l 0 f.0.above f.0.cover k.0 w
      free f k (inr (inr w)) = over (m ∷ ms) f.1 (row-over hi e m ms None f.1 k.1) w

  -- the next EBR is at or below p: the first is not in the way
  passes : (l m : LogicalPartition) (ms : List LogicalPartition) → Row (Good hi) (l ∷ m ∷ ms) None → at m ≤ p → Blocked p e (l ∷ m ∷ ms) → Blocked p e (m ∷ ms)
  passes l m ms g h b =
      let f : Fit hi l (Some m) = good-fit hi l (Some m) g.0 in
      go f b
    where
      go : Fit hi l (Some m) → Blocked p e (l ∷ m ∷ ms) → Blocked p e (m ∷ ms)
      go f (inl b) = absurd (omega (arith, f.above, f.ends))
      go f (inr (inl w)) = absurd (under l 0 f.above f.cover (omega (arith, f.ends)) w)
      go f (inr (inr k)) = inr k

  back : (l m : LogicalPartition) (ms : List LogicalPartition) → at m ≤ p → Blocked p e (m ∷ ms) → Blocked p e (l ∷ m ∷ ms)
  back l m ms h (inl b) = absurd (omega arith)
  back l m ms h (inr k) = inr (inr k)

  listed : (l : LogicalPartition) (ls : List LogicalPartition) → Row (Good hi) (l ∷ ls) None → Is (¬ (Blocked p e (l ∷ ls))) (test l ls)
  unfolding up_to last_logical
  listed l [] g = alone l g
  listed l (m ∷ ms) g =
      le-or (at m) p (Is (¬ (Blocked p e (l ∷ m ∷ ms))) (test l (m ∷ ms)))
      (λ h. rw (le-leb (at m) p h)
      (is-as (¬ (Blocked p e (m ∷ ms))) (¬ (Blocked p e (l ∷ m ∷ ms))) (test m ms) (λ k b. k (passes l m ms g h b)) (λ k b. k (back l m ms h b)) (listed m ms g.1)))
      (λ h. rw (lt-leb (at m) p h) (stands l m ms g h))

  pub gap-way : (ls : List LogicalPartition) → Row (Good hi) ls None → Is (¬ (Blocked p e ls)) (in_gap hi p e ls)
  unfolding order_at earlier_one behind_at
  gap-way [] g = record { to = λ h b. never b; from = λ k. rw (le-leb 0 p (omega arith), le-leb e hi room) }
    where
      never : Blocked p e [] → ⊥
      never (inl b) = b
      never (inr k) = k
  gap-way (l ∷ ls) g = listed l ls g

-- of a sound table
pub sound-gap : (t : Contents) (x : MBRPartitionEntry) → Sound t → extended_entry t ≡ Some x → (p e : ℕ) → p < e → e ≤ end_of x
    → Is (¬ (Blocked p e t.logicals)) (in_gap (end_of x) p e t.logicals)
sound-gap t x s q p e a h = gap-way (end_of x) p e a h t.logicals (sound-row t x s q)
