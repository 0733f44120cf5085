-- One turn of the search, and what is found. Assumes nothing.
use Rattle.std.specs.Prelude.{Result, Ok, Err}
use mathlib.Core.Path.{◌≡◌, refl, sym, ap, ◌∙◌}
use mathlib.Core.List.{List}
use Prim.Native.Nat.{ℕ, zero, suc, ◌+◌, ◌*◌, ◌-◌, ◌≤◌, ◌<◌}
use native.Mathlib.Omega.{arith}
use native.Mathlib.Decide.{dec_lt}
use lib.Dec.{eqb}
use lib.ListN.{take, drop}
use borrow.Author.Tests.{eq-eqb, ne_eqb}
use Rattle.base.specs.Pick.{pick}
use Rattle.extract.specs.Extract.{count, lba_at, record_at, records_from, records, record_in, Good}
use Rattle.extract.specs.ListSpot.{SpotOf}
use Rattle.extract.proofs.Good.{lba-less}

-- the first m + 1 are lower, if number m is
pub lower : (x : List ℕ) → Good x → (a m : ℕ) → m < count x → lba_at x m < a → (j : ℕ) → j < m + 1 → lba_at x j < a
lower x g a m h l j k = elim (dec_lt j m) [ yes p ↦ omega (arith, lba-less x g j m p h) | no p ↦ go (omega arith) ]
  where
    go : j ≡ m → lba_at x j < a
    go e = rw e l

-- all from m on are higher, if number m is
pub higher : (x : List ℕ) → Good x → (a m : ℕ) → m < count x → a < lba_at x m → (j : ℕ) → m ≤ j → j < count x → a < lba_at x j
higher x g a m h l j p k = elim (dec_lt m j) [ yes q ↦ omega (arith, lba-less x g m j q k) | no q ↦ go (omega arith) ]
  where
    go : j ≡ m → a < lba_at x j
    go e = rw e l

-- the record of an LBA that none of k has
pub record-none : (x other : List ℕ) (a i k : ℕ) → ((j : ℕ) → i ≤ j → j < i + k → a ≡ lba_at x j → ⊥) → record_in other (records_from x i k) a ≡ other
unfolding record_in records_from
record-none x other a i zero h = refl
record-none x other a i (suc k) h =
    rw (ne_eqb a (lba_at x i) (h i (omega arith) (omega arith))) (record-none x other a (i + 1) k (λ j p q. h j (omega arith) (omega arith)))

-- the record of the LBA that number m has, and no earlier one
pub record-some : (x other : List ℕ) (a i k m : ℕ) → i ≤ m → m < i + k → a ≡ lba_at x m → ((j : ℕ) → i ≤ j → j < m → a ≡ lba_at x j → ⊥)
    → record_in other (records_from x i k) a ≡ record_at x m
unfolding record_in records_from
record-some x other a i zero m p q e h = absurd (omega arith)
record-some x other a i (suc k) m p q e h = elim (dec_lt i m) [
  | yes l ↦ rw (ne_eqb a (lba_at x i) (h i (omega arith) l)) (record-some x other a (i + 1) k m (omega arith) (omega arith) e (λ j r s. h j (omega arith) s))
  | no l ↦ go (omega arith)
]
  where
    go : i ≡ m → pick (eqb a (lba_at x i)) (record_at x i) (record_in other (records_from x (i + 1) k) a) ≡ record_at x m
    go z = rw (z, eq-eqb a (lba_at x m) e)

-- what the search found, as the record that the extract has
pub found-is : (x other : List ℕ) → Good x → (a m : ℕ) → m < count x → lba_at x m ≡ a → record_in other (records x) a ≡ record_at x m
found-is x other g a m h e =
    record-some x other a 0 (count x) m (omega arith) (omega arith) (sym e) (λ j p q r. absurd (omega (arith, lba-less x g j m q h)))

pub absent-is : (x other : List ℕ) (a p : ℕ) → ((j : ℕ) → j < p → lba_at x j < a) → ((j : ℕ) → p ≤ j → j < count x → a < lba_at x j)
    → record_in other (records x) a ≡ other
absent-is x other a p below above = record-none x other a 0 (count x) go
  where
    go : (j : ℕ) → 0 ≤ j → j < 0 + count x → a ≡ lba_at x j → ⊥
    go j q r e = elim (dec_lt j p) [ yes l ↦ omega (arith, below j l) | no l ↦ omega (arith, above j (omega arith) (omega arith)) ]

-- record number i as the part that is answered
pub part-record : (x : List ℕ) (n i : ℕ) → n ≡ count x → take (24 + n * 4 + i * 512 + 512 - (24 + n * 4 + i * 512)) (drop (24 + n * 4 + i * 512) x) ≡ record_at x i
unfolding record_at
part-record x n i e =
    let z : 24 + n * 4 + i * 512 + 512 - (24 + n * 4 + i * 512) ≡ 512 = omega arith in
    rw (z, e)

-- no two records have one LBA
pub lba-unique : (x : List ℕ) → Good x → (i j : ℕ) → i < count x → j < count x → lba_at x i ≡ lba_at x j → i ≡ j
lba-unique x g i j p q e = one (dec_lt i j) (dec_lt j i)
  where
    one : Dec (i < j) → Dec (j < i) → i ≡ j
    one (yes h) d = absurd (omega (arith, lba-less x g i j h q))
    one (no h) (yes k) = absurd (omega (arith, lba-less x g j i k p))
    one (no h) (no k) = omega arith

-- there is one answer
pub spot-unique : (x : List ℕ) → Good x → (a : ℕ) (r q : Result ℕ ℕ) → SpotOf x (count x) a r → SpotOf x (count x) a q → r ≡ q
spot-unique x g a (Ok i) (Ok j) p q = ap Ok (lba-unique x g i j p.0 q.0 (p.1 ∙ sym q.1))
spot-unique x g a (Ok i) (Err j) p q = absurd (out (dec_lt i j))
  where
    out : Dec (i < j) → ⊥
    out (yes h) = omega (arith, p.1, q.1 i h)
    out (no h) = omega (arith, p.1, q.2 i (omega arith) p.0)
spot-unique x g a (Err i) (Ok j) p q = absurd (out (dec_lt j i))
  where
    out : Dec (j < i) → ⊥
    out (yes h) = omega (arith, q.1, p.1 j h)
    out (no h) = omega (arith, q.1, p.2 j (omega arith) q.0)
spot-unique x g a (Err i) (Err j) p q = ap Err (one (dec_lt i j) (dec_lt j i))
  where
    one : Dec (i < j) → Dec (j < i) → i ≡ j
    one (yes h) d = absurd (omega (arith, q.1 i h, p.2 i (omega arith) (omega (arith, q.0))))
    one (no h) (yes k) = absurd (omega (arith, p.1 j k, q.2 j (omega arith) (omega (arith, p.0))))
    one (no h) (no k) = omega arith
