-- A logical partition that push makes fits a block's slot. Assumes nothing.
use mathlib.Core.Bool.{Bool, true, false}
use Rattle.std.specs.Prelude.{Option, Some, None}
use mathlib.Core.List.{List, [], ◌∷◌, ◌++◌}
use Prim.Native.Nat.{ℕ, ◌+◌, ◌-◌, ◌*◌, ◌/◌, ◌≤◌, ◌<◌, ◌^◌}
use native.Mathlib.Omega.{arith}
use lib.Dec.{ltb}
use borrow.Author.Tests.{ltb-true, leb-true}
use Rattle.base.specs.Pick.{pick}
use Rattle.base.specs.Checks.{Check, ◌!◌, AllHold}
use Rattle.base.proofs.Checks.{hold-left, hold-right}
use Rattle.record_entry.specs.declared.MBRPartitionEntry.{MBRPartitionEntry}
use Rattle.record_ebr.specs.Ebr.{no_kept}
use Rattle.record_ebr.proofs.Laws.{no-kept-ok}
use Rattle.table.specs.declared.LogicalPartition.{LogicalPartition}
use Rattle.table.specs.Table.{most}
use Rattle.block.specs.Fits.{LastFits, KeptLong, SlotFits}
use Rattle.table_address.specs.declared.Geometry.{Geometry}
use Rattle.table_address.specs.Address.{complete, address_in, address_checks, last_checks, link_checks, link_address, update_checks, addressed}
use Rattle.table_push.specs.declared.request.Request.{Request}
use Rattle.table_push.specs.Asked.{place_of, size_of, round_checks, place_checks, end_checks, later_than}
use Rattle.table_push.specs.Push.{fresh, new_logical, geometry_checks, push_checks, is_some, or_none}

-- an address that is not refused
cylinder : (g : Geometry) (a : ℕ) → AllHold (address_checks g a) → (address_in g a).cylinder < 2 ^ 16
cylinder g a h =
    let k : a / (g.heads * g.sectors) ≤ 1023 = leb-true _ _ h.1.0 in
    omega (arith, k)

link_fits : (g : Geometry) (a : ℕ) (m : Option ℕ) → AllHold (link_checks g a m) → LastFits (link_address g a m)
link_fits g a None h = tt
link_fits g a (Some n) h = cylinder g (a + n - 1) h.1.1

addressed-fits : (g : Geometry) (l : LogicalPartition) → SlotFits l → AllHold (update_checks g l) → SlotFits (addressed g l)
unfolding addressed update_checks
addressed-fits g l f h =
    let s = l.partition.starting_lba in
    let n = l.partition.sectors in
    let e = l.absolute_ebr_lba.0 in
    let A₁ = address_checks g s in
    let A₂ = last_checks g s n in
    let A₃ = address_checks g e in
    let A₄ = link_checks g e l.ebr_sectors in
    let h₁ = hold-left (A₁ ++ A₂ ++ A₃) A₄ h in
    let h₂ = hold-left (A₁ ++ A₂) A₃ h₁ in
    let k₁ : AllHold A₁ = hold-left A₁ A₂ h₂ in
    let k₂ : AllHold A₂ = hold-right A₁ A₂ h₂ in
    let k₃ : AllHold A₃ = hold-right (A₁ ++ A₂) A₃ h₁ in
    let k₄ : AllHold A₄ = hold-right (A₁ ++ A₂ ++ A₃) A₄ h in
    record {
      partition = record { first = cylinder g s k₁; last = cylinder g (s + n - 1) k₂.1.1; start = f.partition.start; sectors = f.partition.sectors };
      place = f.place;
      sectors = f.sectors;
      first = cylinder g e k₃;
      last = link_fits g e l.ebr_sectors k₄;
      kept = f.kept;
    }

-- no code and no mark
no-kept-long : KeptLong no_kept
no-kept-long = record { code = no-kept-ok.long; mark = no-kept-ok.mark.long }

fresh-fits : (later : Bool) (q : Request) → place_of q < 2 ^ 32 → size_of q < 2 ^ 32 → place_of q + q.align < 2 ^ 32 → SlotFits (fresh later q)
unfolding fresh
fresh-fits true q a b c =
    record {
      partition = record { first = omega arith; last = omega arith; start = c; sectors = omega arith };
      place = a;
      sectors = b;
      first = omega arith;
      last = omega arith;
      kept = no-kept-long;
    }
fresh-fits false q a b c =
    record {
      partition = record { first = omega arith; last = omega arith; start = c; sectors = omega arith };
      place = a;
      sectors = tt;
      first = omega arith;
      last = tt;
      kept = no-kept-long;
    }

new-fits : (later : Bool) (q : Request) → SlotFits (fresh later q) → AllHold (geometry_checks later q) → SlotFits (new_logical later q)
unfolding new_logical geometry_checks
new-fits later q f h = go (complete q.geometry) h
  where
    go : (b : Bool) → AllHold (pick b (update_checks q.geometry (fresh later q)) []) → SlotFits (pick b (addressed q.geometry (fresh later q)) (fresh later q))
    go true k = addressed-fits q.geometry (fresh later q) f k
    go false k = f

-- what a push that is not refused puts, and where
pub push-fits : (q : Request) (o : Option MBRPartitionEntry) (n : ℕ) → AllHold (push_checks q o n) → SlotFits (new_logical (later_than n) q) × (n < most)
unfolding push_checks round_checks place_checks
push-fits q o n h =
    let R : List Check = (8 ! is_some o) ∷ round_checks q in
    let P : List Check = place_checks q (or_none o) in
    let E : List Check = end_checks (later_than n) q (or_none o) in
    let A : List Check = geometry_checks (later_than n) q in
    let C : List Check = (6 ! ltb n most) ∷ [] in
    let h₁ = hold-left (R ++ P ++ E ++ A) C h in
    let h₂ = hold-left (R ++ P ++ E) A h₁ in
    let h₃ = hold-left (R ++ P) E h₂ in
    let r : AllHold R = hold-left R P h₃ in
    let p : AllHold P = hold-right R P h₃ in
    let a : AllHold A = hold-right (R ++ P ++ E) A h₁ in
    let c : AllHold C = hold-right (R ++ P ++ E ++ A) C h in
    (new-fits (later_than n) q (fresh-fits (later_than n) q (ltb-true _ _ r.1.1.1.0) (ltb-true _ _ r.1.1.1.1.1.0) (ltb-true _ _ p.1.1.0)) a, ltb-true _ _ c.0)
