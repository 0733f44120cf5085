-- Laws of alignment: the steps of its search, and the rule that the definition is. Assumes nothing.
use mathlib.Core.Path.{◌≡◌, refl, ap}
use mathlib.Core.List.{List, [], ◌∷◌, ◌++◌}
use mathlib.Core.Bool.{Bool, true, false}
use Rattle.std.specs.Prelude.{None, Some}
use Prim.Native.Nat.{ℕ, zero, suc, ◌-◌, ◌≤◌, ◌<◌}
use native.Mathlib.Omega.{arith}
use native.Mathlib.Numerals.{sub-one}
use native.Mathlib.Decide.{dec_lt}
use lib.ListN.{length}
use borrow.Author.Tests.{eq-eqb, ne_eqb}
use Rattle.base.specs.Pick.{pick}
use Rattle.base.specs.Said.{gives}
use Rattle.record_entry.specs.declared.MBRPartitionEntry.{MBRPartitionEntry}
use Rattle.record_entry.specs.Entry.{used}
use Rattle.table.specs.Table.{default_align}
use Rattle.read_align.specs.Align.{used_starts, divides_all, largest_start, divisor_to, alignment, Largest}

-- an entry that is not used adds nothing, a used one its start
pub starts-unused : (e : MBRPartitionEntry) → e.sys ≡ 0 → used_starts (e ∷ []) ≡ []
unfolding used_starts
starts-unused e h = rw (eq-eqb _ _ h)

pub starts-used : (e : MBRPartitionEntry) → (e.sys ≡ 0 → ⊥) → used_starts (e ∷ []) ≡ e.starting_lba ∷ []
unfolding used_starts
starts-used e h = rw (ne_eqb _ _ h)

pub starts-append : (es fs : List MBRPartitionEntry) → used_starts (es ++ fs) ≡ used_starts es ++ used_starts fs
unfolding used_starts
starts-append [] fs = refl
starts-append (e ∷ es) fs = go (used e.sys) (starts-append es fs)
  where
    go : (b : Bool) → used_starts (es ++ fs) ≡ used_starts es ++ used_starts fs
        → pick b (e.starting_lba ∷ used_starts (es ++ fs)) (used_starts (es ++ fs)) ≡ pick b (e.starting_lba ∷ used_starts es) (used_starts es) ++ used_starts fs
    go true ih = rw ih
    go false ih = ih

-- one turn of the search
pub divisor-hit : (k : ℕ) (ss : List ℕ) → 0 < k → divides_all k ss ≡ true → divisor_to k ss ≡ Some k
unfolding divisor_to
divisor-hit zero ss h e = absurd (omega arith)
divisor-hit (suc k) ss h e = rw e

pub divisor-miss : (k : ℕ) (ss : List ℕ) → 0 < k → divides_all k ss ≡ false → divisor_to k ss ≡ divisor_to (k - 1) ss
unfolding divisor_to
divisor-miss zero ss h e = absurd (omega arith)
divisor-miss (suc k) ss h e = rw (e, sub-one)

pub divisor-none : (k : ℕ) (ss : List ℕ) → k ≡ 0 → divisor_to k ss ≡ None
unfolding divisor_to
divisor-none k ss e = rw e

-- the rule: the largest divisor
pub divisor-rule : (n k : ℕ) (ss : List ℕ) → divisor_to n ss ≡ Some k → Largest k n ss
unfolding divisor_to
divisor-rule zero k ss h = let w : ◌≡◌ {A = ℕ} 0 1 = cc in absurd (omega arith)
divisor-rule (suc n) k ss h = go (divides_all (suc n) ss) refl (divisor-rule n k ss) h
  where
    go : (b : Bool) → divides_all (suc n) ss ≡ b → (divisor_to n ss ≡ Some k → Largest k n ss) → pick b (Some (suc n)) (divisor_to n ss) ≡ Some k → Largest k (suc n) ss
    go true q ih e =
        let z : suc n ≡ k = cc in
        record { above = omega arith; within = omega arith; divides = rw z at q; least = λ j a b. absurd (omega arith) }
    go false q ih e =
        let l : Largest k n ss = ih e in
        record {
          above = l.above;
          within = omega (arith, l.within);
          divides = l.divides;
          least = λ j a b. elim (dec_lt n j) [ yes h ↦ (let z : suc n ≡ j = omega arith in rw z at q) | no h ↦ l.least j a (omega arith) ];
        }

-- numbers that divide none of them may be left out of the search
pub divisor-from : (n m : ℕ) (ss : List ℕ) → m ≤ n → ((j : ℕ) → m < j → j ≤ n → divides_all j ss ≡ false) → divisor_to n ss ≡ divisor_to m ss
unfolding divisor_to
divisor-from zero m ss h gone = let z : 0 ≡ m = omega arith in ap (λ (k : ℕ). divisor_to k ss) z
divisor-from (suc n) m ss h gone = elim (dec_lt n m) [
  | yes g ↦ (let z : suc n ≡ m = omega arith in ap (λ (k : ℕ). divisor_to k ss) z)
  | no g ↦ rw (gone (suc n) (omega arith) (omega arith)) (divisor-from n m ss (omega arith) (λ j a b. gone j a (omega arith)))
]

-- rule A2: a single used start equal to 1 gives 1
pub single-one : alignment (1 ∷ []) ≡ gives 1
unfolding alignment divisor_to divides_all largest_start
single-one = refl

-- without a start
pub align-none : (ss : List ℕ) → length ss ≡ 0 → alignment ss ≡ gives default_align
unfolding alignment
align-none [] h = refl
align-none (s ∷ ss) h = absurd (omega arith)
