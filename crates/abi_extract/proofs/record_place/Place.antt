-- Where a record stands, by the number of its LBA; and that it is the record that is looked up. Assumes nothing.
use mathlib.Core.Path.{◌≡◌, refl, sym, ap, ◌∙◌}
use mathlib.Core.Bool.{Bool, true, false}
use mathlib.Core.List.{List, [], ◌∷◌}
use Rattle.std.specs.Prelude.{Option, None, Some}
use Prim.Native.Nat.{ℕ, zero, suc, ◌+◌, ◌*◌, ◌≤◌, ◌<◌}
use native.Mathlib.Omega.{arith}
use native.Mathlib.Decide.{dec_lt}
use lib.Dec.{eqb}
use borrow.Author.Tests.{eq-eqb, ne_eqb}
use Rattle.base.specs.Pick.{pick}
use Rattle.base.specs.Checks.{Check, checked}
use Rattle.extract.specs.Extract.{count, lba_at, lbas_from, lbas, record_at, records_from, record_in, look_checks, looked_up, Good}
use Rattle.extract.proofs.Good.{lba-less}
use Rattle.abi_extract.specs.Place.{record_place, looked_place, record_there}

next : (o i : ℕ) → o + i * 512 + 512 ≡ o + (i + 1) * 512
next o i = omega arith

first : (o : ℕ) → o + 0 * 512 ≡ o
first o = omega arith

-- none of k has the LBA
place_none : (x : List ℕ) (at a i k : ℕ) → ((j : ℕ) → i ≤ j → j < i + k → a ≡ lba_at x j → ⊥) → record_place at (lbas_from x i k) a ≡ None
unfolding record_place lbas_from
place_none x at a i zero h = refl
place_none x at a i (suc k) h =
    rw (ne_eqb a (lba_at x i) (h i (omega arith) (omega arith))) (place_none x (at + 512) a (i + 1) k (λ j p q. h j (omega arith) (omega arith)))

-- number m has it, and no earlier one
place-some : (x : List ℕ) (o a i k m : ℕ) → i ≤ m → m < i + k → a ≡ lba_at x m → ((j : ℕ) → i ≤ j → j < m → a ≡ lba_at x j → ⊥)
    → record_place (o + i * 512) (lbas_from x i k) a ≡ Some (o + m * 512)
unfolding record_place lbas_from
place-some x o a i zero m p q e h = absurd (omega arith)
place-some x o a i (suc k) m p q e h = elim (dec_lt i m) [
  | yes l ↦ rw (ne_eqb a (lba_at x i) (h i (omega arith) l), next o i) (place-some x o a (i + 1) k m (omega arith) (omega arith) e (λ j r s. h j (omega arith) s))
  | no l ↦ go (omega arith)
]
  where
    go : i ≡ m → pick (eqb a (lba_at x i)) (Some (o + i * 512)) (record_place (o + i * 512 + 512) (lbas_from x (i + 1) k) a) ≡ Some (o + m * 512)
    go z = rw (z, eq-eqb a (lba_at x m) e)

-- what the search found
pub place_found : (x : List ℕ) (o : ℕ) → Good x → (a m : ℕ) → m < count x → lba_at x m ≡ a → record_place o (lbas x) a ≡ Some (o + m * 512)
place_found x o g a m h e =
    ap (λ (z : ℕ). record_place z (lbas x) a) (sym (first o))
    ∙ place-some x o a 0 (count x) m (omega arith) (omega arith) (sym e) (λ j p q r. absurd (omega (arith, lba-less x g j m q h)))

pub place-absent : (x : List ℕ) (o a p : ℕ) → ((j : ℕ) → j < p → lba_at x j < a) → ((j : ℕ) → p ≤ j → j < count x → a < lba_at x j)
    → record_place o (lbas x) a ≡ None
place-absent x o a p below above = place_none x o a 0 (count x) go
  where
    go : (j : ℕ) → 0 ≤ j → j < 0 + count x → a ≡ lba_at x j → ⊥
    go j q r e = elim (dec_lt j p) [ yes l ↦ omega (arith, below j l) | no l ↦ omega (arith, above j (omega arith) (omega arith)) ]

-- the record at the place is the one of the LBA
there-from : (x : List ℕ) (a i k : ℕ) → record_there x (record_place (24 + count x * 4 + i * 512) (lbas_from x i k) a) ≡ record_in [] (records_from x i k) a
unfolding record_place lbas_from record_in records_from record_at
there-from x a i zero = refl
there-from x a i (suc k) = go (eqb a (lba_at x i)) (there-from x a (i + 1) k)
  where
    go : (b : Bool) → record_there x (record_place (24 + count x * 4 + (i + 1) * 512) (lbas_from x (i + 1) k) a) ≡ record_in [] (records_from x (i + 1) k) a
        → record_there x (pick b (Some (24 + count x * 4 + i * 512)) (record_place (24 + count x * 4 + i * 512 + 512) (lbas_from x (i + 1) k) a))
        ≡ pick b (record_at x i) (record_in [] (records_from x (i + 1) k) a)
    go true h = refl
    go false h = ap (λ (z : ℕ). record_there x (record_place z (lbas_from x (i + 1) k) a)) (next (24 + count x * 4) i) ∙ h

under : (x : List ℕ) (cs : List Check) (o : Option ℕ) → record_there x (checked cs (λ k. None) o) ≡ checked cs (λ k. []) (record_there x o)
under x [] o = refl
under x (c ∷ cs) o = go c.holds (under x cs o)
  where
    go : (b : Bool) → record_there x (checked cs (λ k. None) o) ≡ checked cs (λ k. []) (record_there x o)
        → record_there x (pick b (checked cs (λ k. None) o) None) ≡ pick b (checked cs (λ k. []) (record_there x o)) []
    go true h = h
    go false h = refl

-- what is answered is where the looked-up record stands
pub looked-there : (x : List ℕ) (a : ℕ) → record_there x (looked_place x a) ≡ looked_up x a
looked-there x a =
    under x (look_checks x a) (record_place (24 + count x * 4) (lbas x) a)
    ∙ ap (checked (look_checks x a) (λ k. []))
    (ap (λ (z : ℕ). record_there x (record_place z (lbas x) a)) (sym (first (24 + count x * 4))) ∙ there-from x a 0 (count x))
