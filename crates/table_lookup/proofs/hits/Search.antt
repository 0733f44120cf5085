-- Laws of a search that goes on from entry to entry. Assumes nothing.
use mathlib.Core.Path.{◌≡◌, refl, sym, ap, ◌∙◌}
use mathlib.Core.Bool.{Bool, true, false}
use Rattle.std.specs.Prelude.{None, Some}
use mathlib.Core.List.{List, [], ◌∷◌}
use Prim.Native.Nat.{ℕ, zero, suc, ◌+◌, ◌≤◌, ◌<◌}
use native.Mathlib.Omega.{arith}
use native.Mathlib.Nat.{add-zero}
use native.Mathlib.Numerals.{add-one}
use lib.ListN.{length, drop, get_or, length-map, drop_of_length-le}
use Rattle.base.specs.Pick.{pick}
use Rattle.base.specs.Said.{Said, gives, refuses, and_then}
use Rattle.record_entry.specs.declared.MBRPartitionEntry.{MBRPartitionEntry}
use Rattle.record_entry.specs.Entry.{no_entry}
use Rattle.table.specs.declared.LogicalPartition.{LogicalPartition}
use Rattle.table.specs.Table.{parts, no_logical}
use Rattle.table_lookup.specs.declared.hits.Numbered.{Numbered}
use Rattle.table_lookup.specs.Hits.{holds_says, first_at, numbered, First, Outside}

-- a search at its end
pub at-end : (s n i : ℕ) (es : List MBRPartitionEntry) → length es ≤ i → first_at s n (drop i es) ≡ gives None
unfolding first_at
at-end s n i es h = rw (drop_of_length-le es h)

-- a search at one of the entries
entry-behind : (s n i : ℕ) (es : List MBRPartitionEntry) → i < length es
    → first_at s n (drop i es)
    ≡ and_then (holds_says s (get_or es i no_entry)) (λ b. pick b (gives (Some (numbered n (get_or es i no_entry)))) (first_at s (suc n) (drop (suc i) es)))
unfolding first_at
entry-behind s n i [] h = absurd (omega arith)
entry-behind s n zero (e ∷ es) h = refl
entry-behind s n (suc i) (e ∷ es) h = entry-behind s n i es (omega arith)

pub at-entry : (s b i : ℕ) (es : List MBRPartitionEntry) → i < length es
    → first_at s (b + i) (drop i es)
    ≡ and_then (holds_says s (get_or es i no_entry)) (λ z. pick z (gives (Some (numbered (b + i) (get_or es i no_entry)))) (first_at s (b + (i + 1)) (drop (i + 1) es)))
at-entry s b i es h =
    let e : b + (i + 1) ≡ suc (b + i) = omega arith in
    rw (e, add-one i) (entry-behind s (b + i) i es h)

-- a search at one of the logical partitions
logical-behind : (s n i : ℕ) (ls : List LogicalPartition) → i < length ls
    → first_at s n (drop i (parts ls))
    ≡ and_then (holds_says s (get_or ls i no_logical).partition)
    (λ b. pick b (gives (Some (numbered n (get_or ls i no_logical).partition))) (first_at s (suc n) (drop (suc i) (parts ls))))
unfolding first_at
logical-behind s n i [] h = absurd (omega arith)
logical-behind s n zero (l ∷ ls) h = refl
logical-behind s n (suc i) (l ∷ ls) h = logical-behind s n i ls (omega arith)

pub at-logical : (s b i : ℕ) (ls : List LogicalPartition) → i < length ls
    → first_at s (b + i) (drop i (parts ls))
    ≡ and_then (holds_says s (get_or ls i no_logical).partition)
    (λ z. pick z (gives (Some (numbered (b + i) (get_or ls i no_logical).partition))) (first_at s (b + (i + 1)) (drop (i + 1) (parts ls))))
at-logical s b i ls h =
    let e : b + (i + 1) ≡ suc (b + i) = omega arith in
    rw (e, add-one i) (logical-behind s (b + i) i ls h)

-- a search behind the logical partitions
pub logicals-end : (s n i : ℕ) (ls : List LogicalPartition) → length ls ≤ i → first_at s n (drop i (parts ls)) ≡ gives None
logicals-end s n i ls h =
    let m : length (parts ls) ≤ i = omega (arith, length-map ls (λ (l : LogicalPartition). l.partition)) in
    at-end s n i (parts ls) m

-- the numbers that a search can answer
pub within : (s n : ℕ) (es : List MBRPartitionEntry) (h : Numbered) → first_at s n es ≡ gives (Some h) → (n ≤ h.number) × (h.number < n + length es)
unfolding first_at
within s n [] h e = let w : ◌≡◌ {A = ℕ} 0 1 = cc in absurd (omega arith)
within s n (x ∷ es) h e = go (holds_says s x) (within s (suc n) es h) e
  where
    go : (b : Said Bool) → (first_at s (suc n) es ≡ gives (Some h) → (suc n ≤ h.number) × (h.number < suc n + length es))
        → and_then b (λ b. pick b (gives (Some (numbered n x))) (first_at s (suc n) es)) ≡ gives (Some h)
        → (n ≤ h.number) × (h.number < n + suc (length es))
    go (gives true) ih e =
        let q : numbered n x ≡ h = cc in
        let p : n ≡ h.number = ap (λ (g : Numbered). g.number) q in
        (omega arith, omega arith)
    go (gives false) ih e =
        let p = ih e in
        (omega arith, omega arith)
    go (refuses k) ih e = let w : ◌≡◌ {A = ℕ} 0 1 = cc in absurd (omega arith)

-- what a search finds is the first that holds the sector
pub first_found : (s n : ℕ) (es : List MBRPartitionEntry) (h : Numbered) → first_at s n es ≡ gives (Some h) → First s n es h
unfolding first_at
first_found s n [] h e = let w : ◌≡◌ {A = ℕ} 0 1 = cc in absurd (omega arith)
first_found s n (x ∷ es) h e = go (holds_says s x) refl (first_found s (suc n) es h) e
  where
    go : (b : Said Bool) → holds_says s x ≡ b → (first_at s (suc n) es ≡ gives (Some h) → First s (suc n) es h)
        → and_then b (λ b. pick b (gives (Some (numbered n x))) (first_at s (suc n) es)) ≡ gives (Some h) → First s n (x ∷ es) h
    go (gives true) q ih e =
        let k : numbered n x ≡ h = cc in
        record {
          before = [];
          behind = es;
          parts = ap (λ (g : Numbered). g.entry ∷ es) k;
          number = sym (ap (λ (g : Numbered). g.number) k) ∙ sym (add-zero n);
          outside = tt;
          holds = ap (λ (g : Numbered). holds_says s g.entry) (sym k) ∙ q;
        }
    go (gives false) q ih e =
        let f : First s (suc n) es h = ih e in
        record {
          before = x ∷ f.before;
          behind = f.behind;
          parts = ap (◌∷◌ x) f.parts;
          number = f.number ∙ (omega arith);
          outside = (q, f.outside);
          holds = f.holds;
        }
    go (refuses k) q ih e = let w : ◌≡◌ {A = ℕ} 0 1 = cc in absurd (omega arith)

-- none is found exactly where none holds the sector
pub none_found : (s n : ℕ) (es : List MBRPartitionEntry) → first_at s n es ≡ gives None → Outside s es
unfolding first_at
none_found s n [] e = tt
none_found s n (x ∷ es) e = go (holds_says s x) refl (none_found s (suc n) es) e
  where
    go : (b : Said Bool) → holds_says s x ≡ b → (first_at s (suc n) es ≡ gives None → Outside s es)
        → and_then b (λ b. pick b (gives (Some (numbered n x))) (first_at s (suc n) es)) ≡ gives None → (holds_says s x ≡ gives false) × Outside s es
    go (gives true) q ih e = let w : ◌≡◌ {A = ℕ} 0 1 = cc in absurd (omega arith)
    go (gives false) q ih e = (q, ih e)
    go (refuses k) q ih e = let w : ◌≡◌ {A = ℕ} 0 1 = cc in absurd (omega arith)

-- what the searches over entries rest on
pub ruleset steps = (at-end, at-entry, logicals-end, at-logical)
