-- What is known of a pushed partition once no refusal applies. Assumes nothing.
use mathlib.Core.Path.{◌≡◌, refl, ap, sym, subst, ◌∙◌}
use mathlib.Core.Logic.{inl}
use Rattle.std.specs.Prelude.{None, Option, Some}
use mathlib.Core.Bool.{Bool, true, false, ◌&&◌}
use mathlib.Core.List.{List, [], ◌++◌}
use Prim.Native.Nat.{ℕ, ◌+◌, ◌-◌, ◌*◌, ◌/◌, ◌≤◌, ◌<◌}
use native.Mathlib.Omega.{arith}
use lib.Dec.{ltb, leb, eqb}
use borrow.Author.Tests.{leb-true, eqb-false, not-true}
use Rattle.base.specs.Pick.{pick}
use Rattle.base.specs.Checks.{Check, AllHold}
use Rattle.base.proofs.Checks.{hold-left, hold-right}
use Rattle.record_chs.specs.declared.CHS.{CHS}
use Rattle.record_chs.specs.Chs.{no_chs, ChsOk}
use Rattle.record_chs.proofs.Small.{head-fits, sector-fits}
use Rattle.record_entry.specs.declared.MBRPartitionEntry.{MBRPartitionEntry}
use Rattle.record_entry.specs.Entry.{used, extended, end_of}
use Rattle.record_ebr.specs.Ebr.{no_kept, KeptOk}
use Rattle.record_ebr.proofs.Laws.{no-kept-ok}
use Rattle.table.specs.declared.LogicalPartition.{LogicalPartition}
use Rattle.chain.specs.Facts.{at, start}
use Rattle.table_address.specs.declared.Geometry.{Geometry}
use Rattle.table_address.specs.Address.{complete, address_in, address_checks, last_checks, link_checks, update_checks, link_address, addressed}
use Rattle.table_push.specs.declared.request.Request.{Request}
use Rattle.table_push.specs.Push.{place_of, size_of, fresh, new_logical, geometry_checks}
use Rattle.sound.specs.Sound.{end, Within, IfThere}
use Rattle.sound.proofs.Good.{Zone, Good, Span, zone-end}
use Rattle.careful.proofs.Push.{Writable, Linkable}

-- type and heads are bytes, as they are in every call
pub record Asked (q : Request) : Type 0 where
  pub sys : q.sys < 256
  pub heads : q.geometry.heads < 256

and_right : (a b : Bool) → (a && b) ≡ true → b ≡ true
and_right true b h = h
and_right false b h = let w : ◌≡◌ {A = ℕ} 0 1 = cc in absurd (omega arith)

-- an address that is not refused fits three bytes
address-ok : (g : Geometry) (a : ℕ) → g.heads < 256 → complete g ≡ true → AllHold (address_checks g a) → ChsOk (address_in g a)
unfolding complete
address-ok g a heads c h =
    let s : g.sectors ≤ 63 = leb-true g.sectors 63 (and_right (ltb 0 g.cylinders && leb g.cylinders 1023 && ltb 0 g.heads && ltb 0 g.sectors) (leb g.sectors 63) c) in
    let z : (g.heads * g.sectors ≡ 0 → ⊥) = eqb-false (g.heads * g.sectors) 0 (not-true (eqb (g.heads * g.sectors) 0) h.0) in
    let p : a / (g.heads * g.sectors) ≤ 1023 = leb-true (a / (g.heads * g.sectors)) 1023 h.1.0 in
    record {
      cylinder = omega arith;
      head = omega (arith, head-fits a g.heads g.sectors z);
      sector = omega (arith, sector-fits a g.heads g.sectors z);
    }

-- the last link CHS: there for a later one only
abbrev pub TailOk : Bool → Option CHS → Type 0
TailOk true m = (c : CHS) × (m ≡ Some c) × ChsOk c
TailOk false m = m ≡ None

pub record NewOk (later : Bool) (q : Request) (l : LogicalPartition) : Type 0 where
  pub place : at l ≡ place_of q
  pub start : start l ≡ place_of q + q.align
  pub sectors : l.partition.sectors ≡ size_of q - q.align
  pub boot : l.partition.boot ≡ 0
  pub sys : l.partition.sys ≡ q.sys
  pub kept : l.kept ≡ no_kept
  pub span : l.ebr_sectors ≡ pick later (Some (size_of q)) None
  pub first : ChsOk l.partition.first_chs
  pub last : ChsOk l.partition.last_chs
  pub link : ChsOk l.ebr_first_chs
  pub tail : TailOk later l.ebr_last_chs

tail-fresh : (later : Bool) → TailOk later (pick later (Some no_chs) None)
tail-fresh true = (no_chs, refl, omega arith)
tail-fresh false = refl

unaddressed : (later : Bool) (q : Request) → NewOk later q (fresh later q)
unfolding fresh
unaddressed later q = record {
  place = refl;
  start = refl;
  sectors = refl;
  boot = refl;
  sys = refl;
  kept = refl;
  span = refl;
  first = omega arith;
  last = omega arith;
  link = omega arith;
  tail = tail-fresh later;
}

tail_at : (later : Bool) (g : Geometry) (a n : ℕ) → g.heads < 256 → complete g ≡ true → AllHold (link_checks g a (pick later (Some n) None))
    → TailOk later (link_address g a (pick later (Some n) None))
tail_at true g a n heads c h = (address_in g (a + n - 1), refl, address-ok g (a + n - 1) heads c h.1.1)
tail_at false g a n heads c h = refl

with-address : (later : Bool) (q : Request) → q.geometry.heads < 256 → complete q.geometry ≡ true → AllHold (update_checks q.geometry (fresh later q))
    → NewOk later q (addressed q.geometry (fresh later q))
unfolding fresh addressed update_checks
with-address later q heads c h =
    let g : Geometry = q.geometry in
    let s : ℕ = place_of q + q.align in
    let n : ℕ = size_of q - q.align in
    let A : List Check = address_checks g s in
    let B : List Check = last_checks g s n in
    let C : List Check = address_checks g (place_of q) in
    let L : List Check = link_checks g (place_of q) (pick later (Some (size_of q)) None) in
    let abc : AllHold (A ++ B ++ C) = hold-left (A ++ B ++ C) L h in
    let ab : AllHold (A ++ B) = hold-left (A ++ B) C abc in
    record {
      place = refl;
      start = refl;
      sectors = refl;
      boot = refl;
      sys = refl;
      kept = refl;
      span = refl;
      first = address-ok g s heads c (hold-left A B ab);
      last = address-ok g (s + n - 1) heads c (hold-right A B ab).1.1;
      link = address-ok g (place_of q) heads c (hold-right (A ++ B) C abc);
      tail = tail_at later g (place_of q) (size_of q) heads c (hold-right (A ++ B ++ C) L h);
    }

pub new_ok : (later : Bool) (q : Request) → Asked q → AllHold (geometry_checks later q) → NewOk later q (new_logical later q)
unfolding geometry_checks new_logical
new_ok later q k h = go (complete q.geometry) refl h
  where
    go : (b : Bool) → complete q.geometry ≡ b → AllHold (pick b (update_checks q.geometry (fresh later q)) [])
        → NewOk later q (pick b (addressed q.geometry (fresh later q)) (fresh later q))
    go true c h = with-address later q k.heads c h
    go false c h = unaddressed later q

-- what the other refusals leave known
pub record Fits (q : Request) (e : MBRPartitionEntry) : Type 0 where
  pub align : 0 < q.align
  pub size : 2 * q.align ≤ size_of q
  pub low : e.starting_lba ≤ place_of q
  pub high : place_of q + size_of q ≤ end_of e
  pub used : used q.sys ≡ true
  pub plain : extended q.sys ≡ false

within : (c : CHS) → ChsOk c → Within c
within c k = omega arith

if-there : (later : Bool) (m : Option CHS) → TailOk later m → IfThere m
if-there true m t = subst IfThere (sym t.1) (within t.0 t.2)
if-there false m t = subst IfThere (sym t) tt

not_plain : (k : ℕ) → extended k ≡ false → extended k ≡ true → ⊥
not_plain k p q = let w : ◌≡◌ {A = Bool} true false = cc in let z : ◌≡◌ {A = ℕ} 0 1 = cc in omega arith

module _ (later : Bool) (q : Request) (e : MBRPartitionEntry) (l : LogicalPartition) (asked : Asked q) (f : Fits q e) (o : NewOk later q l) where
  pub new-zone : Zone l
  new-zone = record {
    used = ap used o.sys ∙ f.used;
    after = omega (arith, o.place, o.start, f.align);
    size = omega (arith, o.sectors, f.size, f.align);
  }

  pub end-new : end l ≡ place_of q + size_of q
  end-new = omega (arith, zone-end l new-zone, o.start, o.sectors, f.size, f.align)

  pub new-good : Good (end_of e) l None
  new-good = record {
    own = record {
      flag = inl o.boot;
      chs = ((within l.partition.first_chs o.first, within l.partition.last_chs o.last), (within l.ebr_first_chs o.link, if-there later l.ebr_last_chs o.tail));
      plain = λ x. not_plain q.sys f.plain (ap extended (sym o.sys) ∙ x);
    };
    place = inl new-zone;
    ends = omega (arith, end-new, f.high);
    linked = tt;
  }

  pub new-writable : Writable l
  new-writable = record { kept = subst KeptOk (sym o.kept) no-kept-ok; sys = omega (arith, o.sys, asked.sys); first = o.first; last = o.last }

-- of a later one
module _ (q : Request) (e : MBRPartitionEntry) (l : LogicalPartition) (asked : Asked q) (f : Fits q e) (o : NewOk true q l) where
  pub new-span : Span (end_of e) l
  new-span = record {
    zone = new-zone true q e l asked f o;
    span = size_of q;
    sectors = o.span;
    size = omega (arith, f.size, f.align);
    ends = omega (arith, o.place, f.high);
    covers = omega (arith, end-new true q e l asked f o, o.place);
  }

  pub new-linkable : Linkable l
  new-linkable = record { tail = o.tail.0; last = o.tail.1; first-ok = o.link; last_ok = o.tail.2 }
