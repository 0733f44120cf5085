-- The entry of a number is that of the list of entries. Assumes nothing.
use mathlib.Core.Path.{◌≡◌, refl}
use mathlib.Core.Bool.{Bool, true, false}
use Rattle.std.specs.Prelude.{None, Some}
use mathlib.Core.List.{List, [], ◌∷◌}
use Prim.Native.Nat.{ℕ, zero, suc, ◌-◌, ◌≤◌, ◌<◌}
use native.Mathlib.Omega.{arith}
use lib.Dec.{ltb}
use lib.ListN.{length, take, get_or}
use borrow.Author.Tests.{ne_eqb, le-ltb, lt-ltb, ltb-true, ltb-false}
use Rattle.base.specs.Pick.{pick}
use Rattle.record_mbr.specs.Mbr.{primaries}
use Rattle.table.specs.declared.LogicalPartition.{LogicalPartition}
use Rattle.table.specs.declared.MBR.{MBR}
use Rattle.table.specs.Table.{logicals, parts, no_logical}
use Rattle.table_lookup.specs.Numbers.{nth, entry_of}

-- 1 to 4 are the primaries
pub primary-listed : (t : MBR) (n : ℕ) → 1 ≤ n → n < 5 → entry_of t n ≡ nth (primaries t.header) (n - 1)
unfolding nth
primary-listed t zero p q = absurd (omega arith)
primary-listed t (suc zero) p q = refl
primary-listed t (suc (suc zero)) p q = refl
primary-listed t (suc (suc (suc zero))) p q = refl
primary-listed t (suc (suc (suc (suc zero)))) p q = refl
primary-listed t (suc (suc (suc (suc (suc n))))) p q = absurd (omega arith)

next : (k c : ℕ) (b : Bool) → ltb k c ≡ b → ltb (suc k) (suc c) ≡ b
next k c true e =
    let h : k < c = ltb-true k c e in
    lt-ltb (suc k) (suc c) (omega arith)
next k c false e =
    let h : c ≤ k = ltb-false k c e in
    le-ltb (suc k) (suc c) (omega arith)

taken : (l : List LogicalPartition) (c k : ℕ) → c ≤ length l → pick (ltb k c) (Some (get_or l k no_logical).partition) None ≡ nth (parts (take c l)) k
unfolding nth
taken l zero k h = rw (le-ltb k 0 (omega arith))
taken [] (suc c) k h = absurd (omega arith)
taken (x ∷ l) (suc c) zero h = rw (lt-ltb 0 (suc c) (omega arith))
taken (x ∷ l) (suc c) (suc k) h = rw (next k c (ltb k c) refl) (taken l c k (omega arith))

-- 5 and up are the logical partitions
pub logical-listed : (t : MBR) (n : ℕ) → 5 ≤ n → t.count ≤ length t.logical_partitions → entry_of t n ≡ nth (parts (logicals t)) (n - 5)
logical-listed t n p h =
    let z : n ≡ 0 → ⊥ = λ e. omega arith in
    rw (ne_eqb n 0 z, le-ltb n 5 p) (taken t.logical_partitions t.count (n - 5) h)
