-- Tables with other logical partitions, and refusals one logical partition after the other. Assumes nothing.
use mathlib.Core.Path.{◌≡◌, refl, sym, ap, ◌∙◌}
use mathlib.Core.List.{List, [], ◌∷◌, ◌++◌, map}
use mathlib.Core.Bool.{Bool, true, false}
use Rattle.std.specs.Prelude.{Option, None, Some}
use Prim.Native.Nat.{ℕ, zero, suc, ◌+◌, ◌≤◌, ◌<◌}
use native.Mathlib.Numerals.{add-one}
use native.Mathlib.Omega.{arith}
use lib.ListN.{length, drop, get_or, length-map}
use lib.Seq.{drop-cons, drop-length, length-take-le, get_or-take}
use Rattle.base.specs.Checks.{AllHold, first-fail}
use Rattle.base.specs.Pick.{pick}
use Rattle.base.proofs.Checks.{none-fails, all_hold, hold-left, hold-right, fail-left, fail-right}
use Rattle.table.specs.declared.LogicalPartition.{LogicalPartition}
use Rattle.table.specs.declared.MBR.{MBR}
use Rattle.table.specs.Table.{most, no_logical, logicals}
use Rattle.chain.specs.Facts.{at}
use Rattle.block.specs.Block.{table_in, Passed}
use Rattle.block.proofs.Inside.{slots-in, slots-long}
use Rattle.table_address.specs.declared.Geometry.{Geometry}
use Rattle.table_address.specs.Address.{complete, addressed}
use Rattle.table_push.specs.Push.{geometry_of}
use Rattle.write_rules.specs.AsWritten.{at_start, first_at_start, by_geometry, slot_geometry, all_geometry, as_written, next_linked, row_checks, all_rows, logicals_checks, slots_geometry, as_written_in}

-- the first in its place, a later one as it is
pub first-here : (X i : ℕ) (ls : List LogicalPartition) → i ≡ 0 → i < length ls → get_or (first_at_start X ls) i no_logical ≡ at_start X (get_or ls i no_logical)
unfolding first_at_start
first-here X zero (l ∷ ls) e h = refl
first-here X zero [] e h = absurd (omega arith)
first-here X (suc i) ls e h = absurd (omega arith)

pub first-later : (X i : ℕ) (ls : List LogicalPartition) → (i ≡ 0 → ⊥) → get_or (first_at_start X ls) i no_logical ≡ get_or ls i no_logical
unfolding first_at_start
first-later X i [] h = refl
first-later X zero (l ∷ ls) h = absurd (h refl)
first-later X (suc i) (l ∷ ls) h = refl

pub length-first : (X : ℕ) (ls : List LogicalPartition) → length (first_at_start X ls) ≡ length ls
unfolding first_at_start
length-first X [] = refl
length-first X (l ∷ ls) = refl

-- one as writing leaves it
map_at : {A : Type 0} (f : A → A) (l : List A) (i : ℕ) (d : A) → i < length l → get_or (map f l) i d ≡ f (get_or l i d)
map_at f [] i d h = absurd (omega arith)
map_at f (a ∷ l) zero d h = refl
map_at f (a ∷ l) (suc i) d h = map_at f l i d (omega arith)

pub settled_at : (g : Geometry) (X i : ℕ) (ls : List LogicalPartition) → i < length ls → get_or (as_written g X ls) i no_logical ≡ by_geometry g (get_or (first_at_start X ls) i no_logical)
unfolding as_written
settled_at g X i ls h = map_at (by_geometry g) (first_at_start X ls) i no_logical (omega (arith, length-first X ls))

-- addresses leave its place and its code as they are
place-stays : (g : Geometry) (l : LogicalPartition) → at (by_geometry g l) ≡ at l
unfolding addressed
place-stays g l = go (complete g)
  where
    go : (b : Bool) → at (pick b (addressed g l) l) ≡ at l
    go true = refl
    go false = refl

first-kept : (X i : ℕ) (ls : List LogicalPartition) → (get_or (first_at_start X ls) i no_logical).kept ≡ (get_or ls i no_logical).kept
unfolding first_at_start at_start
first-kept X i [] = refl
first-kept X zero (l ∷ ls) = refl
first-kept X (suc i) (l ∷ ls) = refl

kept-stays : (g : Geometry) (l : LogicalPartition) → (by_geometry g l).kept ≡ l.kept
unfolding addressed
kept-stays g l = go (complete g)
  where
    go : (b : Bool) → (pick b (addressed g l) l).kept ≡ l.kept
    go true = refl
    go false = refl

-- the refusals from number i on
module _ (g : Geometry) (l : List LogicalPartition) (i : ℕ) (h : i < length l) where
  geometry-here : first-fail (all_geometry g (drop i l))
      ≡ first-fail (slot_geometry g (get_or l i no_logical) ++ all_geometry g (drop (i + 1) l))
  unfolding all_geometry
  geometry-here = rw (drop-cons l i no_logical h, add-one i)

  pub geometry-fails : (k : ℕ) → first-fail (slot_geometry g (get_or l i no_logical)) ≡ Some k → first-fail (all_geometry g (drop i l)) ≡ Some k
  geometry-fails k e = geometry-here ∙ fail-left (slot_geometry g (get_or l i no_logical)) (all_geometry g (drop (i + 1) l)) k e

  pub geometry-holds : first-fail (slot_geometry g (get_or l i no_logical)) ≡ None
      → first-fail (all_geometry g (drop i l)) ≡ first-fail (all_geometry g (drop (i + 1) l))
  geometry-holds e = geometry-here ∙ fail-right (slot_geometry g (get_or l i no_logical)) (all_geometry g (drop (i + 1) l)) e

-- the refusals of one logical partition l and of those from number i on, of which m is the first
module _ (d : ℕ) (ls : List LogicalPartition) (l m : LogicalPartition) (i : ℕ) (h : i < length ls) (p : get_or ls i no_logical ≡ m) where
  rows-here : first-fail (all_rows d (l ∷ drop i ls)) ≡ first-fail (row_checks d l (next_linked (Some m)) ++ all_rows d (m ∷ drop (i + 1) ls))
  unfolding all_rows
  rows-here = rw (drop-cons ls i no_logical h, p, add-one i)

  module _ (b : Bool) (o : Option ℕ) (q : b ≡ next_linked (Some m)) (r : o ≡ first-fail (row_checks d l b)) where
    row_here : first-fail (row_checks d l (next_linked (Some m))) ≡ o
    row_here = ap (λ (w : Bool). first-fail (row_checks d l w)) (sym q) ∙ sym r

    pub rows-fails : (k : ℕ) → o ≡ Some k → first-fail (all_rows d (l ∷ drop i ls)) ≡ Some k
    rows-fails k e = rows-here ∙ fail-left (row_checks d l (next_linked (Some m))) (all_rows d (m ∷ drop (i + 1) ls)) k (row_here ∙ e)

    pub rows-holds : o ≡ None → first-fail (all_rows d (l ∷ drop i ls)) ≡ first-fail (all_rows d (m ∷ drop (i + 1) ls))
    rows-holds e = rows-here ∙ fail-right (row_checks d l (next_linked (Some m))) (all_rows d (m ∷ drop (i + 1) ls)) (row_here ∙ e)

pub geometry-end : (g : Geometry) (l : List LogicalPartition) (i : ℕ) → i ≡ length l → first-fail (all_geometry g (drop i l)) ≡ None
unfolding all_geometry
geometry-end g l i e = rw (e, drop-length l)

-- no row, from the first on, behind the last
pub rows_none : (d : ℕ) (ls : List LogicalPartition) → length ls ≡ 0 → first-fail (all_rows d ls) ≡ None
unfolding all_rows
rows_none d [] e = refl
rows_none d (l ∷ ls) e = absurd (omega arith)

pub rows-first : (d : ℕ) (ls : List LogicalPartition) → 0 < length ls → first-fail (all_rows d ls) ≡ first-fail (all_rows d (get_or ls 0 no_logical ∷ drop 1 ls))
rows-first d [] h = absurd (omega arith)
rows-first d (l ∷ ls) h = refl

pub rows_end : (d : ℕ) (ls : List LogicalPartition) (l : LogicalPartition) (i : ℕ) → i ≡ length ls → first-fail (all_rows d (l ∷ drop i ls)) ≡ first-fail (row_checks d l true)
unfolding all_rows
rows_end d ls l i e = rw (e, drop-length ls)

-- as many as the count says
pub length-logicals : (t : MBR) → t.count ≤ length t.logical_partitions → length (logicals t) ≡ t.count
length-logicals t h = length-take-le t.count t.logical_partitions h

-- the logical partitions as writing leaves them are as many
pub settled-long : (t : MBR) (x : ℕ) → length (logicals t) ≡ t.count → length (as_written_in t x) ≡ t.count
unfolding as_written
settled-long t x h = length-map (first_at_start x (logicals t)) (by_geometry (geometry_of t)) ∙ length-first x (logicals t) ∙ h

-- the steps of settling a table
module _ (t : MBR) (x d : ℕ) where
  abbrev ls : List LogicalPartition
  ls = logicals t

  pub settle-fails : (k : ℕ) → first-fail (all_geometry (geometry_of t) (first_at_start x ls)) ≡ Some k → first-fail (logicals_checks (geometry_of t) x d ls) ≡ Some k
  unfolding logicals_checks
  settle-fails k e = fail-left (all_geometry (geometry_of t) (first_at_start x ls)) (all_rows d (as_written (geometry_of t) x ls)) k e

  pub settle-rows : first-fail (all_geometry (geometry_of t) (first_at_start x ls)) ≡ None → first-fail (logicals_checks (geometry_of t) x d ls) ≡ first-fail (all_rows d (as_written (geometry_of t) x ls))
  unfolding logicals_checks
  settle-rows e = fail-right (all_geometry (geometry_of t) (first_at_start x ls)) (all_rows d (as_written (geometry_of t) x ls)) e

  pub settle-none : first-fail (logicals_checks (geometry_of t) x d ls) ≡ None → first-fail (slots_geometry t x) ≡ None
  unfolding logicals_checks
  settle-none e =
      let g = all_geometry (geometry_of t) (first_at_start x ls) in
      all_hold g (hold-left g (all_rows d (as_written (geometry_of t) x ls)) (none-fails (logicals_checks (geometry_of t) x d ls) e))

-- where no address is refused, none of one logical partition is
each_holds : (g : Geometry) (l : List LogicalPartition) (i : ℕ) → i < length l → AllHold (all_geometry g l) → AllHold (slot_geometry g (get_or l i no_logical))
unfolding all_geometry
each_holds g [] i h a = absurd (omega arith)
each_holds g (l ∷ ls) zero h a = hold-left (slot_geometry g l) (all_geometry g ls) a
each_holds g (l ∷ ls) (suc i) h a = each_holds g ls i (omega arith) (hold-right (slot_geometry g l) (all_geometry g ls) a)

pub geometry-each : (g : Geometry) (l : List LogicalPartition) (i : ℕ) → i < length l → first-fail (all_geometry g l) ≡ None → first-fail (slot_geometry g (get_or l i no_logical)) ≡ None
geometry-each g l i h e = all_hold (slot_geometry g (get_or l i no_logical)) (each_holds g l i h (none-fails (all_geometry g l) e))

-- the logical partitions of a block
module _ (b : List ℕ) (h : Passed b) where
  pub held-long : length (logicals (table_in b)) ≡ (table_in b).count
  held-long = length-logicals (table_in b) (omega (arith, ap length (slots-in b) ∙ slots-long b most, h.few))

  module _ (x i : ℕ) (k : i < (table_in b).count) where
    pub held_in : i < length (logicals (table_in b))
    held_in = omega (arith, held-long)

    pub held_at : get_or (logicals (table_in b)) i no_logical ≡ get_or (table_in b).logical_partitions i no_logical
    held_at = get_or-take (table_in b).count (table_in b).logical_partitions i no_logical k

    pub held_none : first-fail (slots_geometry (table_in b) x) ≡ None → first-fail (slot_geometry (geometry_of (table_in b)) (get_or (first_at_start x (logicals (table_in b))) i no_logical)) ≡ None
    held_none = geometry-each (geometry_of (table_in b)) (first_at_start x (logicals (table_in b))) i (omega (arith, length-first x (logicals (table_in b)), held_in))

    -- as writing leaves it
    pub held_first : i ≡ 0 → at (get_or (as_written_in (table_in b) x) i no_logical) ≡ x
    unfolding at_start
    held_first e =
        ap at (settled_at (geometry_of (table_in b)) x i (logicals (table_in b)) held_in)
        ∙ place-stays (geometry_of (table_in b)) _
        ∙ ap at (first-here x i (logicals (table_in b)) e held_in)

    pub held-later : (i ≡ 0 → ⊥) → at (get_or (as_written_in (table_in b) x) i no_logical) ≡ at (get_or (table_in b).logical_partitions i no_logical)
    held-later e =
        ap at (settled_at (geometry_of (table_in b)) x i (logicals (table_in b)) held_in)
        ∙ place-stays (geometry_of (table_in b)) _
        ∙ ap at (first-later x i (logicals (table_in b)) e ∙ held_at)

    pub held_kept : (get_or (as_written_in (table_in b) x) i no_logical).kept ≡ (get_or (table_in b).logical_partitions i no_logical).kept
    held_kept =
        ap (λ (l : LogicalPartition). l.kept) (settled_at (geometry_of (table_in b)) x i (logicals (table_in b)) held_in)
        ∙ kept-stays (geometry_of (table_in b)) _
        ∙ first-kept x i (logicals (table_in b))
        ∙ ap (λ (l : LogicalPartition). l.kept) held_at
