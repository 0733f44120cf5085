-- The extended entry is never answered. Assumes nothing.
use mathlib.Core.Path.{◌≡◌, refl, sym, ap, ◌∙◌}
use mathlib.Core.Bool.{Bool, true, false}
use Rattle.std.specs.Prelude.{Option, None, Some}
use mathlib.Core.List.{List, [], ◌∷◌, ◌++◌}
use Prim.Native.Nat.{ℕ, ◌-◌, ◌≤◌, ◌<◌}
use native.Mathlib.Omega.{arith}
use lib.Dec.{leb}
use lib.ListN.{length}
use Rattle.base.specs.Pick.{pick}
use Rattle.base.specs.Said.{Said, gives, refuses, and_then}
use Rattle.record_entry.specs.declared.MBRPartitionEntry.{MBRPartitionEntry}
use Rattle.record_entry.specs.Entry.{extended}
use Rattle.record_mbr.specs.Mbr.{primaries}
use Rattle.table.specs.declared.MBR.{MBR}
use Rattle.table.specs.Table.{logicals, parts, most}
use Rattle.table_lookup.specs.declared.hits.Numbered.{Numbered}
use Rattle.table_lookup.specs.Numbers.{nth, entry_of}
use Rattle.table_lookup.specs.Hits.{first_at, among_logicals, First}
use Rattle.table_lookup.specs.Find.{number_of, turned, find_says}
use Rattle.table_lookup.proofs.Numbers.{primary-listed}
use Rattle.table_lookup.proofs.hits.Search.{within, first_found}

seam : {A : Type 0} (xs : List A) (y : A) (ys : List A) → nth (xs ++ y ∷ ys) (length xs) ≡ Some y
unfolding nth
seam [] y ys = refl
seam (x ∷ xs) y ys = seam xs y ys

-- a primary that is answered is the entry of that number, and not extended
pub never-extended : (t : MBR) (s n : ℕ) (e : MBRPartitionEntry) → find_says t s ≡ gives (Some n) → n < 5 → entry_of t n ≡ Some e → extended e.sys ≡ false
unfolding find_says among_logicals
never-extended t s n e f p q = counted (leb t.count most) f
  where
    logical : (g : Said (Option Numbered)) → first_at s 5 (parts (logicals t)) ≡ g → number_of g ≡ gives (Some n) → extended e.sys ≡ false
    logical (gives None) o g = let w : ◌≡◌ {A = ℕ} 0 1 = cc in absurd (omega arith)
    logical (gives (Some h)) o g =
        let m : h.number ≡ n = cc in
        absurd (omega (arith, (within s 5 (parts (logicals t)) h o).0))
    logical (refuses k) o g = let w : ◌≡◌ {A = ℕ} 0 1 = cc in absurd (omega arith)

    here : (h : Numbered) → First s 1 (primaries t.header) h → h.number ≡ n → extended h.entry.sys ≡ false → extended e.sys ≡ false
    here h o m x =
        let k : n - 1 ≡ length o.before = omega (arith, o.number) in
        let i : 1 ≤ n = omega (arith, o.number) in
        let a : entry_of t n ≡ Some h.entry =
        primary-listed t n i p ∙ ap (nth (primaries t.header)) k ∙ ap (λ (l : List MBRPartitionEntry). nth l (length o.before)) o.parts ∙ seam o.before h.entry o.behind in
        let b : Some e ≡ Some h.entry = sym q ∙ a in
        let d : e ≡ h.entry = cc in
        ap (λ (x : MBRPartitionEntry). extended x.sys) d ∙ x

    plain : (b : Bool) (h : Numbered) → extended h.entry.sys ≡ b → First s 1 (primaries t.header) h
        → pick b (number_of (among_logicals t s)) (gives (Some h.number)) ≡ gives (Some n) → extended e.sys ≡ false
    plain true h x o g = logical (first_at s 5 (parts (logicals t))) refl g
    plain false h x o g =
        let m : h.number ≡ n = cc in
        here h o m x

    first : (g : Said (Option Numbered)) → first_at s 1 (primaries t.header) ≡ g → and_then g (turned t s) ≡ gives (Some n) → extended e.sys ≡ false
    first (gives None) o g = let w : ◌≡◌ {A = ℕ} 0 1 = cc in absurd (omega arith)
    first (gives (Some h)) o g = plain (extended h.entry.sys) h refl (first_found s 1 (primaries t.header) h o) g
    first (refuses k) o g = let w : ◌≡◌ {A = ℕ} 0 1 = cc in absurd (omega arith)

    counted : (b : Bool) → pick b (and_then (first_at s 1 (primaries t.header)) (turned t s)) (refuses 6) ≡ gives (Some n) → extended e.sys ≡ false
    counted true g = first (first_at s 1 (primaries t.header)) refl g
    counted false g = let w : ◌≡◌ {A = ℕ} 0 1 = cc in absurd (omega arith)
