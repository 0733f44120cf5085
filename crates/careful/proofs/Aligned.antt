-- Where an extended entry starts above 0, reading finds an alignment. Assumes nothing.
use mathlib.Core.Path.{◌≡◌, refl, ap}
use Rattle.std.specs.Prelude.{Option, Some}
use mathlib.Core.Bool.{Bool, true, false}
use mathlib.Core.List.{List, [], ◌∷◌, ◌++◌}
use Prim.Native.Nat.{ℕ, zero, suc, ◌%◌, ◌≤◌, min, max}
use native.Mathlib.Omega.{arith}
use borrow.Author.Tests.{eq-eqb}
use Rattle.base.specs.Pick.{pick}
use Rattle.base.specs.Said.{gives}
use Rattle.record_entry.specs.declared.MBRPartitionEntry.{MBRPartitionEntry}
use Rattle.record_entry.specs.Entry.{used, extended}
use Rattle.record_mbr.specs.Mbr.{extended_of}
use Rattle.table.specs.Table.{greatest_align}
use Rattle.read_align.specs.Align.{used_starts, divides_all, largest_start, divisor_to, or_seven, alignment}
use Rattle.sound.proofs.Good.{extended-used}

-- an alignment is found
pub record Aligned (ss : List ℕ) : Type 0 where
  pub align : ℕ
  pub found : alignment ss ≡ gives align

one-divides : (ss : List ℕ) → divides_all 1 ss ≡ true
unfolding divides_all
one-divides [] = refl
one-divides (s ∷ ss) =
    let z : s % 1 ≡ 0 = omega arith in
    rw (eq-eqb (s % 1) 0 z) (one-divides ss)

pub record Found (o : Option ℕ) : Type 0 where
  pub value : ℕ
  pub is : o ≡ Some value

divisor-found : (n : ℕ) (ss : List ℕ) → Found (divisor_to (suc n) ss)
unfolding divisor_to
divisor-found zero ss = rw (one-divides ss) (record { value = 1; is = refl })
divisor-found (suc n) ss = go (divides_all (suc (suc n)) ss) (divisor-found n ss)
  where
    go : (b : Bool) → Found (divisor_to (suc n) ss) → Found (pick b (Some (suc (suc n))) (divisor_to (suc n) ss))
    go true ih = record { value = suc (suc n); is = refl }
    go false ih = ih

found-to : (n : ℕ) (ss : List ℕ) → 1 ≤ n → Found (divisor_to n ss)
found-to zero ss h = absurd (omega arith)
found-to (suc n) ss h = divisor-found n ss

pub aligned-of : (ss : List ℕ) → 1 ≤ largest_start ss → Aligned ss
unfolding alignment largest_start
aligned-of [] h = absurd (omega arith)
aligned-of (s ∷ ss) h =
    let n : 1 ≤ min greatest_align (max s (largest_start ss)) = omega arith in
    let f : Found (divisor_to (min greatest_align (max s (largest_start ss))) (s ∷ ss)) = found-to (min greatest_align (max s (largest_start ss))) (s ∷ ss) n in
    record { align = f.value; found = ap or_seven f.is }

-- the extended entry's start is a used one
large-starts : (e : MBRPartitionEntry) (ps qs : List MBRPartitionEntry) → extended_of ps ≡ Some e → e.starting_lba ≤ largest_start (used_starts (ps ++ qs))
unfolding extended_of largest_start used_starts
large-starts e [] qs h = let w : ◌≡◌ {A = ℕ} 0 1 = cc in absurd (omega arith)
large-starts e (p ∷ ps) qs h = go (large-starts e ps qs) (extended p.sys) refl h
  where
    other : e.starting_lba ≤ largest_start (used_starts (ps ++ qs)) → (b : Bool)
        → e.starting_lba ≤ largest_start (pick b (p.starting_lba ∷ used_starts (ps ++ qs)) (used_starts (ps ++ qs)))
    other z true = omega arith
    other z false = z

    go : (extended_of ps ≡ Some e → e.starting_lba ≤ largest_start (used_starts (ps ++ qs))) → (x : Bool) → extended p.sys ≡ x → pick x (Some p) (extended_of ps) ≡ Some e
        → e.starting_lba ≤ largest_start (pick (used p.sys) (p.starting_lba ∷ used_starts (ps ++ qs)) (used_starts (ps ++ qs)))
    go ih true q c =
        let pe : p ≡ e = cc in
        let s : p.starting_lba ≡ e.starting_lba = ap (λ (x : MBRPartitionEntry). x.starting_lba) pe in
        rw (extended-used p.sys q) (omega arith)
    go ih false q c = other (ih c) (used p.sys)

pub aligned : (e : MBRPartitionEntry) (ps qs : List MBRPartitionEntry) → extended_of ps ≡ Some e → 1 ≤ e.starting_lba → Aligned (used_starts (ps ++ qs))
aligned e ps qs x h = aligned-of (used_starts (ps ++ qs)) (omega (arith, large-starts e ps qs x))
