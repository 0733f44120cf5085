-- The numbers that a search for a sector can answer. Assumes nothing.
use mathlib.Core.Path.{◌≡◌, refl, ◌∙◌}
use mathlib.Core.Bool.{Bool, true, false}
use Rattle.std.specs.Prelude.{Option, None, Some}
use Prim.Native.Nat.{ℕ, ◌+◌, ◌-◌, ◌≤◌, ◌<◌}
use native.Mathlib.Omega.{arith}
use lib.Dec.{leb}
use Rattle.std.specs.Prelude.{min}
use lib.ListN.{length, length-map, length-take}
use borrow.Author.Tests.{leb-true}
use Rattle.base.specs.Pick.{pick}
use Rattle.base.specs.Said.{Said, gives, refuses, and_then}
use Rattle.record_entry.specs.Entry.{extended}
use Rattle.record_mbr.specs.Mbr.{primaries}
use Rattle.table.specs.declared.MBR.{MBR}
use Rattle.table.specs.Table.{logicals, parts, most}
use Rattle.table_lookup.specs.declared.hits.Numbered.{Numbered}
use Rattle.table_lookup.specs.Hits.{first_at, among_logicals}
use Rattle.table_lookup.specs.Find.{number_of, turned, find_says}
use Rattle.table_lookup.proofs.hits.Search.{within}

-- the number of a logical partition that holds a sector
pub among-few : (t : MBR) (s n : ℕ) → number_of (among_logicals t s) ≡ gives (Some n) → n < 5 + t.count
unfolding among_logicals
among-few t s n = go (among_logicals t s) refl
  where
    go : (f : Said (Option Numbered)) → among_logicals t s ≡ f → number_of f ≡ gives (Some n) → n < 5 + t.count
    go (gives None) q g = let w : ◌≡◌ {A = ℕ} 0 1 = cc in absurd (omega arith)
    go (gives (Some h)) q g =
        let m : h.number ≡ n = cc in
        let w = within s 5 (parts (logicals t)) h q in
        let k : length (parts (logicals t)) ≡ min t.count (length t.logical_partitions) =
        length-map (logicals t) _ ∙ length-take t.count t.logical_partitions in
        omega arith
    go (refuses k) q g = let w : ◌≡◌ {A = ℕ} 0 1 = cc in absurd (omega arith)

-- a logical partition's number is one of the table's
pub found-logical : (t : MBR) (s n : ℕ) → find_says t s ≡ gives (Some n) → 5 ≤ n → (n - 5 < t.count) × (t.count ≤ most)
unfolding find_says
found-logical t s n e p = counted (leb t.count most) refl e
  where
    plain : t.count ≤ most → (b : Bool) (h : Numbered) → h.number < 5 → pick b (number_of (among_logicals t s)) (gives (Some h.number)) ≡ gives (Some n) → n - 5 < t.count
    plain z true h m g = omega (arith, among-few t s n g, p)
    plain z false h m g =
        let k : h.number ≡ n = cc in
        absurd (omega arith)

    first : t.count ≤ most → (f : Said (Option Numbered)) → first_at s 1 (primaries t.header) ≡ f → and_then f (turned t s) ≡ gives (Some n) → n - 5 < t.count
    first z (gives None) q g = let w : ◌≡◌ {A = ℕ} 0 1 = cc in absurd (omega arith)
    first z (gives (Some h)) q g = plain z (extended h.entry.sys) h (within s 1 (primaries t.header) h q).1 g
    first z (refuses k) q g = let w : ◌≡◌ {A = ℕ} 0 1 = cc in absurd (omega arith)

    counted : (b : Bool) → leb t.count most ≡ b → pick b (and_then (first_at s 1 (primaries t.header)) (turned t s)) (refuses 6) ≡ gives (Some n)
        → (n - 5 < t.count) × (t.count ≤ most)
    counted true q g =
        let z : t.count ≤ most = leb-true _ _ q in
        (first z (first_at s 1 (primaries t.header)) refl g, z)
    counted false q g = let w : ◌≡◌ {A = ℕ} 0 1 = cc in absurd (omega arith)
