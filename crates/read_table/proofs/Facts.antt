-- A disk reads as a table exactly when the facts hold. Assumes nothing.
use mathlib.Core.Path.{◌≡◌, refl, ap, sym, subst, ◌∙◌}
use mathlib.Core.List.{List, ◌∷◌, ◌++◌}
use Prim.Native.Nat.{ℕ, ◌≤◌, ◌<◌}
use native.Mathlib.Omega.{arith}
use lib.Dec.{ltb}
use borrow.Author.Tests.{ltb-true, lt-ltb}
use Rattle.base.specs.Said.{Said, gives, refuses, and_then}
use Rattle.base.specs.Checks.{◌!◌, AllHold}
use Rattle.base.proofs.Checks.{answer-gives, none-fails, all_hold, checked-none}
use Rattle.record_mbr.specs.declared.MBRHeader.{MBRHeader}
use Rattle.record_mbr.specs.Mbr.{mbr_of, header_checks, primaries, extended_of}
use Rattle.extract.specs.Disk.{Disk}
use Rattle.extract.specs.declared.Extract.{Extract}
use Rattle.extract.specs.Extract.{disk_of}
use Rattle.extract.specs.Answers.{check_says}
use Rattle.table.specs.declared.LogicalPartition.{LogicalPartition}
use Rattle.table.specs.declared.MBR.{MBR}
use Rattle.table.specs.Table.{parts, most}
use Rattle.chain.specs.Chain.{view, logicals_of}
use Rattle.chain.specs.Facts.{seen}
use Rattle.chain.proofs.Rows.{holds→logicals, logicals→holds}
use Rattle.chain.proofs.Slots.{holds-few}
use Rattle.read_align.specs.Align.{used_starts, alignment}
use Rattle.read_table.specs.Read.{Table, with_chain, read, read_says, table_of, no_table, table_for, table_read}
use Rattle.read_header.specs.Header.{header_on}
use Rattle.read_table.specs.Facts.{Reads}
use Rattle.read_table.proofs.Says.{read-given}

-- a header that is read: sector 0 is on the disk, its signature and flags are right, and its bytes say it
pub header→facts : (d : Disk) (h : MBRHeader) → header_on d ≡ gives h → (0 < d.size) × (mbr_of (d.sector 0) ≡ h) × AllHold (header_checks h)
unfolding header_on
header→facts d h e =
    let m = mbr_of (d.sector 0) in
    let p = answer-gives ((2 ! ltb 0 d.size) ∷ header_checks m) m h e in
    let q = none-fails ((2 ! ltb 0 d.size) ∷ header_checks m) p.0 in
    (ltb-true 0 d.size q.0, p.1, subst (λ (x : MBRHeader). AllHold (header_checks x)) p.1 q.1)

pub facts→header : (d : Disk) (h : MBRHeader) → 0 < d.size → mbr_of (d.sector 0) ≡ h → AllHold (header_checks h) → header_on d ≡ gives h
unfolding header_on
facts→header d h p e q =
    let m = mbr_of (d.sector 0) in
    let r : AllHold (header_checks m) = subst (λ (x : MBRHeader). AllHold (header_checks x)) (sym e) q in
    checked-none ((2 ! ltb 0 d.size) ∷ header_checks m) refuses (gives m) (all_hold ((2 ! ltb 0 d.size) ∷ header_checks m) (lt-ltb 0 d.size p, r)) ∙ ap gives e

-- sector 0 and the size decide the header
pub header-same : (d e : Disk) → d.size ≡ e.size → d.sector 0 ≡ e.sector 0 → header_on d ≡ header_on e
unfolding header_on
header-same d e p q = rw (p, q)

pub reads→read : (d : Disk) (t : Table) → Reads d t → read d ≡ gives t
unfolding read with_chain
reads→read d t r =
    rw (r.header, holds→logicals (view d) (extended_of (primaries t.header)) t.logicals r.holds, r.align)
    (λ i. gives (record { width = r.width i; size = r.size i; header = t.header; logicals = t.logicals; align = t.align }))

pub read→reads : (d : Disk) (t : Table) → read d ≡ gives t → Reads d t
unfolding read with_chain
read→reads d t e = top (header_on d) refl e
  where
    last : (h : MBRHeader) (ls : List LogicalPartition) → header_on d ≡ gives h → logicals_of (view d) (extended_of (primaries h)) ≡ gives ls
        → (s : Said ℕ) → alignment (used_starts (primaries h ++ parts ls)) ≡ s
        → and_then s (λ a. gives (record { width = d.width; size = d.size; header = h; logicals = ls; align = a })) ≡ gives t → Reads d t
    last h ls p q (refuses k) f c = let z : ◌≡◌ {A = ℕ} 0 1 = cc in absurd (omega arith)
    last h ls p q (gives a) f c =
        let u : Table = record { width = d.width; size = d.size; header = h; logicals = ls; align = a } in
        let same : u ≡ t = cc in
        let r : Reads d u = record { width = refl; size = refl; header = p; holds = logicals→holds (view d) (extended_of (primaries h)) ls q; align = f } in
        rw same at r

    body : (h : MBRHeader) → header_on d ≡ gives h → (s : Said (List LogicalPartition)) → logicals_of (view d) (extended_of (primaries h)) ≡ s
        → and_then s (λ ls. and_then (alignment (used_starts (primaries h ++ parts ls)))
        (λ a. gives (record { width = d.width; size = d.size; header = h; logicals = ls; align = a }))) ≡ gives t → Reads d t
    body h p (refuses k) q c = let z : ◌≡◌ {A = ℕ} 0 1 = cc in absurd (omega arith)
    body h p (gives ls) q c = last h ls p q (alignment (used_starts (primaries h ++ parts ls))) refl c

    top : (s : Said MBRHeader) → header_on d ≡ s → and_then s (with_chain d) ≡ gives t → Reads d t
    top (refuses k) q c = let z : ◌≡◌ {A = ℕ} 0 1 = cc in absurd (omega arith)
    top (gives h) q c = body h q (logicals_of (view d) (extended_of (primaries h))) refl c

none-few : (k : ℕ) → (table_for (refuses k)).count ≤ most
unfolding table_of no_table
none-few k = omega arith

-- a table that is read has no more logical partitions than it holds
read-few : (x : List ℕ) (s : Said Table) → read (disk_of x) ≡ s → (table_for s).count ≤ most
unfolding table_of no_table
read-few x (gives t) h = holds-few (seen (disk_of x)) (extended_of (primaries t.header)) t.logicals (read→reads (disk_of x) t h).holds
read-few x (refuses k) h = none-few k

pub says-few : (x : List ℕ) → (table_for (read_says x)).count ≤ most
unfolding read_says
says-few x = go (check_says x)
  where
    go : (s : Said Extract) → (table_for (and_then s (λ e. read (disk_of x)))).count ≤ most
    go (gives e) = read-few x (read (disk_of x)) refl
    go (refuses k) = none-few k

pub given-few : (x : List ℕ) (t : MBR) → gives t ≡ table_read (read_says x) → t.count ≤ most
given-few x t h = rw (read-given (read_says x) t h).1 (says-few x)
