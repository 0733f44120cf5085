-- Where logical partitions lie: each after its EBR, and before the next EBR or the end of the extended partition. Assumes nothing.
use mathlib.Core.Logic.{◌≢◌, inl, inr}
use Rattle.std.specs.Prelude.{Option, None, Some}
use mathlib.Core.List.{List, [], ◌∷◌, ◌++◌}
use Prim.Native.Nat.{ℕ, suc, ◌≤◌, ◌<◌}
use native.Mathlib.Omega.{arith}
use Rattle.base.specs.Row.{Row}
use Rattle.base.proofs.Row.{row-zip, row-map}
use Rattle.base.specs.All.{All}
use Rattle.record_entry.specs.Entry.{end_of}
use Rattle.table.specs.declared.LogicalPartition.{LogicalPartition}
use Rattle.chain.specs.Facts.{at, start, Before}
use Rattle.sound.specs.Sound.{Vacant, end, bound}
use Rattle.sound.proofs.Good.{Place, Good, vacant-of, zone-end, vacant-end, place-above}
use Rattle.careful.specs.Demand3.{In}

-- what the proofs above know of a place: an EBR, then its partition's own sectors, then the end, and that by the next EBR
pub record Fit (hi : ℕ) (l : LogicalPartition) (n : Option LogicalPartition) : Type 0 where
  pub above : at l < end l
  pub ends : end l ≤ bound hi n
  pub start : at l ≤ start l
  pub cover : end_of l.partition ≤ end l
  pub inner : (a : ℕ) → In a l.partition → at l < a

place-fit : (hi : ℕ) (l : LogicalPartition) (n : Option LogicalPartition) → Place l → end l ≤ bound hi n → Fit hi l n
place-fit hi l n (inl z) h = record {
  above = place-above l (inl z);
  ends = h;
  start = omega (arith, z.after);
  cover = omega (arith, zone-end l z);
  inner = λ a i. omega (arith, i.low, z.after);
}
place-fit hi l n (inr v) h =
    let k : Vacant l = vacant-of l v in
    record {
      above = place-above l (inr v);
      ends = h;
      start = omega (arith, k.place);
      cover = omega (arith, vacant-end l v, k.place, k.sectors);
      inner = λ a i. omega (arith, i.low, i.high, k.sectors);
    }

pub good-fit : (hi : ℕ) (l : LogicalPartition) (n : Option LogicalPartition) → Good hi l n → Fit hi l n
good-fit hi l n g = place-fit hi l n g.place g.ends

pub fit_of : (hi : ℕ) (ls : List LogicalPartition) (n : Option LogicalPartition) → Row (Good hi) ls n → Row (Fit hi) ls n
fit_of hi = row-map (Good hi) (Fit hi) (λ l n g. good-fit hi l n g)

pub before-fit : (hi : ℕ) (l : LogicalPartition) (n : Option LogicalPartition) → Fit hi l n → Before l n
before-fit hi l None f = tt
before-fit hi l (Some m) f = omega (arith, f.above, f.ends)

abbrev pub Clear : ℕ → LogicalPartition → Option LogicalPartition → Type 0
Clear a l n = ¬ (In a l.partition)

abbrev pub Under : ℕ → LogicalPartition → Option LogicalPartition → Type 0
Under a l n = end l ≤ a

abbrev pub Over : ℕ → LogicalPartition → Option LogicalPartition → Type 0
Over a l n = a ≤ at l

abbrev pub Off : ℕ → LogicalPartition → Option LogicalPartition → Type 0
Off a l n = at l ≢ a

module _ (hi a : ℕ) where
  pub row_under : (ls : List LogicalPartition) (n : Option LogicalPartition) → Row (Fit hi) ls n → bound hi n ≤ a → Row (Under a) ls n
  row_under [] n f h = tt
  row_under (l ∷ []) n f h = (omega (arith, f.0.ends), tt)
  row_under (l ∷ m ∷ ms) n f h =
      let r : Row (Under a) (m ∷ ms) n = row_under (m ∷ ms) n f.1 h in
      (omega (arith, f.0.ends, f.1.0.above, r.0), r)

  pub row-over : (l : LogicalPartition) (ls : List LogicalPartition) (n : Option LogicalPartition) → Row (Fit hi) (l ∷ ls) n → a ≤ at l → Row (Over a) (l ∷ ls) n
  row-over l [] n f h = (h, tt)
  row-over l (m ∷ ms) n f h = (h, row-over m ms n f.1 (omega (arith, f.0.above, f.0.ends)))

  pub clear-under : (ls : List LogicalPartition) (n : Option LogicalPartition) → Row (Fit hi) ls n → bound hi n ≤ a → Row (Clear a) ls n
  clear-under ls n f h = row-zip (Fit hi) (Under a) (Clear a) (λ l m p u t. omega (arith, t.high, p.cover)) ls n f (row_under ls n f h)

  pub clear-over : (l : LogicalPartition) (ls : List LogicalPartition) (n : Option LogicalPartition) → Row (Fit hi) (l ∷ ls) n → a ≤ at l → Row (Clear a) (l ∷ ls) n
  clear-over l ls n f h = row-zip (Fit hi) (Over a) (Clear a) (λ x m p q t. omega (arith, p.inner a t)) (l ∷ ls) n f (row-over l ls n f h)

  pub off-under : (ls : List LogicalPartition) (n : Option LogicalPartition) → Row (Fit hi) ls n → bound hi n ≤ a → Row (Off a) ls n
  off-under ls n f h = row-zip (Fit hi) (Under a) (Off a) (λ x m p q. omega (arith, p.above)) ls n f (row_under ls n f h)

pub off-over : (hi a : ℕ) (l : LogicalPartition) (ls : List LogicalPartition) (n : Option LogicalPartition) → Row (Fit hi) (l ∷ ls) n → a < at l → Row (Off a) (l ∷ ls) n
off-over hi a l ls n f h = row-map (Over (suc a)) (Off a) (λ x m q. omega arith) (l ∷ ls) n (row-over hi (suc a) l ls n f h)

-- lists
pub all_of : (a : ℕ) (ls : List LogicalPartition) (n : Option LogicalPartition) → Row (Clear a) ls n → All (λ l. ¬ (In a l.partition)) ls
all_of a [] n r = tt
all_of a (l ∷ ls) n r = (r.0, all_of a ls n r.1)

module _ {A : Type 0} (P : A → Type 0) where
  pub all_join : (xs ys : List A) → All P xs → All P ys → All P (xs ++ ys)
  all_join [] ys p q = q
  all_join (x ∷ xs) ys p q = (p.0, all_join xs ys p.1 q)

  all_left : (xs ys : List A) → All P (xs ++ ys) → All P xs
  all_left [] ys p = tt
  all_left (x ∷ xs) ys p = (p.0, all_left xs ys p.1)

  all_right : (xs ys : List A) → All P (xs ++ ys) → All P ys
  all_right [] ys p = p
  all_right (x ∷ xs) ys p = all_right xs ys p.1

  -- the one behind `y` left out
  pub all-skip : (xs : List A) (y z : A) (zs : List A) → All P (xs ++ y ∷ z ∷ zs) → All P (xs ++ y ∷ zs)
  all-skip xs y z zs p =
      let u : All P (y ∷ z ∷ zs) = all_right xs (y ∷ z ∷ zs) p in
      all_join xs (y ∷ zs) (all_left xs (y ∷ z ∷ zs) p) (u.0, u.1.1)
