-- Laying a disk's record over an extract of it adds that record and loses none. Assumes nothing.
use mathlib.Core.Path.{◌≡◌, refl, ap, ◌∙◌}
use mathlib.Core.List.{List, []}
use mathlib.Core.Bool.{Bool, true, false}
use Prim.Native.Nat.{ℕ, ◌≤◌, ◌<◌}
use native.Mathlib.Omega.{arith}
use lib.Dec.{eqb}
use lib.ListN.{length}
use borrow.Author.Tests.{eq-eqb, ne_eqb, eqb-true}
use Rattle.base.specs.Pick.{pick}
use Rattle.base.specs.Bytes.{Record}
use Rattle.extract.specs.Disk.{Disk}
use Rattle.extract.specs.Extract.{Good, disk_of, disk_sectors, records, record_of, record_in}
use Rattle.extract.specs.Rules.{most_records}
use Rattle.extract.proofs.Disk.{size-stored, width-stored}
use Rattle.extract_lay.specs.Layover.{new_extract, new_records}
use Rattle.extract_lay.proofs.Sorted.{over-sector}
use Rattle.extract_lay.proofs.Laws.{new-good, new-records, new-stored}
use Rattle.read_table.specs.Wanted.{absent, From}
use Rattle.read_table.specs.Collect.{Adds}

module _ (d : Disk) (x : List ℕ) (g : Good x) (f : From d x) (a : ℕ) (k : Record (d.sector a)) (h : a < disk_sectors x)
    (m : length (new_records x a (d.sector a)) ≤ most_records) where
  abbrev y : List ℕ
  y = new_extract x a (d.sector a)

  record-new : (b : ℕ) → record_of y b ≡ pick (eqb b a) (d.sector a) (record_of x b)
  record-new b =
      ap (λ ss. record_in [] ss b) (new-records x g a (d.sector a) k h m) ∙ over-sector [] (record { lba = a; bytes = d.sector a }) (records x) b

  full : absent y a ≡ false
  full =
      let e : record_of y a ≡ d.sector a = record-new a ∙ rw (eq-eqb a a refl) in
      ne_eqb (length (record_of y a)) 0 (λ z. omega (arith, ap length e, k.long))

  kept : (b : ℕ) → absent x b ≡ false → absent y b ≡ false
  kept b q = go (eqb b a) refl
    where
      go : (t : Bool) → eqb b a ≡ t → absent y b ≡ false
      go true p =
          let z : b ≡ a = eqb-true b a p in
          rw z full
      go false p =
          let e : record_of y b ≡ record_of x b = record-new b ∙ rw p in
          rw e q

  same : (b : ℕ) → absent y b ≡ false → record_of y b ≡ d.sector b
  same b q = go (eqb b a) refl
    where
      go : (t : Bool) → eqb b a ≡ t → record_of y b ≡ d.sector b
      go true p =
          let z : b ≡ a = eqb-true b a p in
          record-new b ∙ rw p (rw z)
      go false p =
          let e : record_of y b ≡ record_of x b = record-new b ∙ rw p in
          e ∙ f.same b (rw e at q)

  -- laying the disk's record over its extract
  pub lay-adds : Adds d x a y
  lay-adds = record {
    good = new-good x g a (d.sector a) k h m;
    from = record {
      width = ap (λ w. w.width) (new-stored x g a (d.sector a) k h m) ∙ width-stored (disk_of x) _ ∙ f.width;
      size = ap (λ w. w.size) (new-stored x g a (d.sector a) k h m) ∙ size-stored (disk_of x) _ ∙ f.size;
      same = same;
    };
    there = full;
    keeps = kept;
  }
