-- The last of a list, and the place of a new partition in the order, step by step. Assumes nothing.
use mathlib.Core.Path.{◌≡◌, refl, ap, sym, ◌∙◌}
use mathlib.Core.List.{List, [], ◌∷◌}
use mathlib.Core.Bool.{Bool, true, false}
use Rattle.std.specs.Prelude.{Option, None, Some, slice_get}
use Prim.Native.Nat.{ℕ, suc, ◌+◌, ◌-◌, ◌≤◌, ◌<◌}
use native.Mathlib.Omega.{arith}
use native.Mathlib.Numerals.{add-one}
use lib.ListN.{length, get_or, take, drop, drop_of_length-le}
use lib.Seq.{drop-cons, length-take-le, take_all}
use borrow.Author.Tests.{le-leb, lt-leb}
use lib.Dec.{leb}
use Rattle.base.specs.Pick.{pick}
use Rattle.base.specs.Row.{next}
use Rattle.record_entry.specs.declared.MBRPartitionEntry.{MBRPartitionEntry}
use Rattle.record_entry.specs.Entry.{no_entry, end_of}
use Rattle.table.specs.declared.LogicalPartition.{LogicalPartition}
use Rattle.chain.specs.Facts.{at}
use Rattle.sound.specs.Sound.{bound}
use Rattle.careful_stores.specs.Linked.{link_behind}
use Rattle.careful_stores.specs.Order.{last_logical, up_to, order_at, earlier_one, behind_at, later_one, between}
use Rattle.careful_stores.proofs.ebr_store.Laws.{link-none}

-- the last one
last-at : (l : LogicalPartition) (ls : List LogicalPartition) → slice_get (l ∷ ls) (length ls) ≡ Some (last_logical l ls)
unfolding last_logical
last-at l [] = refl
last-at l (m ∷ ms) = last-at m ms

-- the one before a new partition at p is the last of those before it
pub earlier-last : (p : ℕ) (ls : List LogicalPartition) (k : ℕ) → k ≡ order_at p ls → slice_get (take k ls) (length (take k ls) - 1) ≡ earlier_one p ls
unfolding order_at earlier_one
earlier-last p [] k h = rw h
earlier-last p (l ∷ ls) k h =
    let xs = take (up_to p ls) ls in
    let z : suc (length xs) - 1 ≡ length xs = omega arith in
    rw (h, z) (last-at l xs)

-- how many stand before a new partition at p, from the first on
module _ (p : ℕ) (ls : List LogicalPartition) where
  pub order_begins : order_at p ls ≡ length (take 1 ls) + up_to p (drop 1 ls)
  unfolding order_at up_to
  order_begins = go ls
    where
      go : (ls : List LogicalPartition) → order_at p ls ≡ length (take 1 ls) + up_to p (drop 1 ls)
      go [] = omega arith
      go (m ∷ ms) = omega arith

  module _ (d : LogicalPartition) (i : ℕ) (h : i < length ls) where
    pub order_goes_on : at (get_or ls i d) ≤ p → length (take i ls) + up_to p (drop i ls) ≡ length (take (i + 1) ls) + up_to p (drop (i + 1) ls)
    unfolding up_to
    order_goes_on k =
        let e = drop-cons ls i d h in
        rw (length-take-le i ls (omega arith), length-take-le (i + 1) ls (omega arith), add-one, e, le-leb (at (get_or ls i d)) p k) (omega arith)

    pub order_stops : p < at (get_or ls i d) → length (take i ls) + up_to p (drop i ls) ≡ i
    unfolding up_to
    order_stops k =
        let e = drop-cons ls i d h in
        rw (length-take-le i ls (omega arith), e, lt-leb (at (get_or ls i d)) p k) (omega arith)

  pub order_ends : (i : ℕ) → length ls ≤ i → length (take i ls) + up_to p (drop i ls) ≡ length ls
  unfolding up_to
  order_ends i h = rw (drop_of_length-le ls h, take_all i ls h) (omega arith)

-- no more than there are
up-few : (p : ℕ) (ls : List LogicalPartition) → up_to p ls ≤ length ls
unfolding up_to
up-few p [] = omega arith
up-few p (l ∷ ls) = go (leb (at l) p) (up-few p ls)
  where
    go : (b : Bool) → up_to p ls ≤ length ls → pick b (suc (up_to p ls)) 0 ≤ length (l ∷ ls)
    go true h = omega arith
    go false h = omega arith

pub order-few : (p : ℕ) (ls : List LogicalPartition) → order_at p ls ≤ length ls
unfolding order_at
order-few p [] = omega arith
order-few p (l ∷ ls) = omega (arith, up-few p ls)

-- what a new partition at p stands between: nothing behind it, or another
module _ (e : MBRPartitionEntry) (p : ℕ) (ls : List LogicalPartition) (k : ℕ) (before : Option LogicalPartition) where
  pub between_none : (b : ℕ) (link : MBRPartitionEntry) → k ≡ order_at p ls → before ≡ slice_get (take k ls) (length (take k ls) - 1) → b ≡ end_of e → link ≡ no_entry → length ls ≤ k
      → record { order = k; earlier = before; bound = b; link = link } ≡ between e p ls
  unfolding between behind_at
  between_none b link h q r s n =
      let late : later_one p ls ≡ None = ap (λ (j : ℕ). next (drop j ls) None) (sym h) ∙ ap (λ (z : List LogicalPartition). next z None) (drop_of_length-le ls n) in
      let x : before ≡ earlier_one p ls = q ∙ earlier-last p ls k h in
      let y : b ≡ bound (end_of e) (later_one p ls) = r ∙ sym (ap (bound (end_of e)) late) in
      let z : link ≡ link_behind e (later_one p ls) = s ∙ sym (ap (link_behind e) late ∙ link-none e) in
      λ i. record { order = h i; earlier = x i; bound = y i; link = z i }

  pub between-some : (later d : LogicalPartition) (link : MBRPartitionEntry) → k ≡ order_at p ls → before ≡ slice_get (take k ls) (length (take k ls) - 1) → later ≡ get_or ls k d
      → link ≡ link_behind e (Some later) → k < length ls → record { order = k; earlier = before; bound = at later; link = link } ≡ between e p ls
  unfolding between behind_at
  between-some later d link h q r s n =
      let late : later_one p ls ≡ Some later =
      ap (λ (j : ℕ). next (drop j ls) None) (sym h) ∙ ap (λ (z : List LogicalPartition). next z None) (drop-cons ls k d n) ∙ ap Some (sym r) in
      let x : before ≡ earlier_one p ls = q ∙ earlier-last p ls k h in
      let y : at later ≡ bound (end_of e) (later_one p ls) = sym (ap (bound (end_of e)) late) in
      let z : link ≡ link_behind e (later_one p ls) = s ∙ sym (ap (link_behind e) late) in
      λ i. record { order = h i; earlier = x i; bound = y i; link = z i }
