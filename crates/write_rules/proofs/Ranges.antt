-- Every record that is written of a table whose numbers fit their types is 512 bytes on the disk. Assumes nothing.
use Rattle.record_chs.specs.declared.CHS.{CHS}
use mathlib.Core.Path.{◌≡◌, refl}
use mathlib.Core.List.{List, [], ◌∷◌, ◌++◌, map}
use mathlib.Core.Bool.{Bool, true, false}
use Rattle.std.specs.Prelude.{Option, None, Some, unwrap_or}
use Rattle.record_chs.specs.Chs.{no_chs}
use Prim.Native.Nat.{ℕ, ◌*◌, ◌<◌}
use native.Mathlib.Omega.{arith}
use lib.Dec.{eqb}
use borrow.Author.Tests.{ltb-true, eqb-false, not-true}
use Rattle.base.specs.Pick.{pick}
use Rattle.base.specs.Bytes.{Bytes, Record, signature}
use Rattle.base.specs.Row.{next}
use Rattle.base.specs.Said.{gives}
use Rattle.base.specs.Checks.{AllHold}
use Rattle.base.proofs.Bytes.{bytes-append}
use Rattle.base.proofs.Checks.{hold-left, hold-right}
use Rattle.base.specs.All.{All}
use Rattle.write_rules.specs.Ranges.{InByte, HeaderIn, ChsIn, LogicalIn, TableIn}
use Rattle.record_ebr.proofs.Laws.{ebr-long, no-mark-ok}
use Rattle.record_entry.specs.declared.MBRPartitionEntry.{MBRPartitionEntry}
use Rattle.record_entry.specs.Entry.{entry_bytes}
use Rattle.record_ebr.specs.Ebr.{no_mark, ebr_bytes}
use Rattle.record_mbr.specs.declared.MBRHeader.{MBRHeader}
use Rattle.record_mbr.specs.Mbr.{mbr_bytes}
use Rattle.record_mbr.proofs.Laws.{extended-has, long-there, mbr-bytes}
use Rattle.extract.specs.Disk.{after}
use Rattle.extract.specs.Extract.{disk_sectors, Good, disk_of}
use Rattle.table.specs.declared.LogicalPartition.{LogicalPartition}
use Rattle.table.specs.declared.MBR.{MBR}
use Rattle.table.specs.Table.{logicals, extended_in}
use Rattle.record_chs.proofs.Small.{head-fits}
use Rattle.table_address.specs.declared.Geometry.{Geometry}
use Rattle.table_address.specs.Address.{complete, address_in, update_checks, link_address, addressed}
use Rattle.table_push.specs.Push.{geometry_of}
use Rattle.chain.specs.Facts.{at, body_of, link_in, leads}
use Rattle.chain.specs.Links.{link_entry, ebr_for}
use Rattle.write_rules.specs.AsWritten.{at_start, first_at_start, by_geometry, all_geometry, as_written, logicals_checks, next_linked, row_checks, all_rows}
use Rattle.write_rules.specs.Write.{header_store, chain_stores, chain_checks, table_stores}
use Rattle.write_rules.specs.Records.{write_plain, ebr_stores, extract_over}
use Rattle.write_rules.specs.Answers.{write_says}
use Rattle.write_rules.proofs.Over.{Storable, disk-held, chain_held, table-good, table-disk}

entry_in : (e : MBRPartitionEntry) → InByte e → Bytes (entry_bytes e)
entry_in e k = omega (arith, k.boot, k.first, k.sys, k.last)

pub header-whole : (h : MBRHeader) → HeaderIn h → Record (mbr_bytes h)
header-whole h o =
    record {
      long = long-there h o.code o.disk o.mark;
      bytes =
          mbr-bytes h o.code-bytes o.disk-bytes o.mark-bytes (entry_in h.partition_1 o.one) (entry_in h.partition_2 o.two)
          (entry_in h.partition_3 o.three) (entry_in h.partition_4 o.four);
    }

abbrev NextIn : Option LogicalPartition → Type 0
NextIn None = Unit {0}
NextIn (Some m) = LogicalIn m

last-in : (m : Option CHS) → ChsIn m → (unwrap_or m no_chs).head < 256
last-in None k = omega arith
last-in (Some c) k = k

link-in : (sys X : ℕ) (n : Option LogicalPartition) → sys < 256 → NextIn n → InByte (link_entry sys (leads X n))
unfolding link_entry link_in
link-in sys X None s k = record { boot = omega arith; first = omega arith; sys = omega arith; last = omega arith }
link-in sys X (Some m) s k = record { boot = omega arith; first = k.first; sys = s; last = last-in m.ebr_last_chs k.last }

ebr-whole : (e : MBRPartitionEntry) (l : LogicalPartition) (n : Option LogicalPartition) → e.sys < 256 → LogicalIn l → NextIn n → Record (write_plain e l n).bytes
unfolding write_plain ebr_for body_of ebr_bytes
ebr-whole e l n s k j =
    let c = l.kept.bootstrap_code in
    let h = ebr_for e l n in
    let p = h.partition_1 in
    let q = h.partition_2 in
    let ip : InByte p = record { boot = k.part.boot; first = k.part.first; sys = k.part.sys; last = k.part.last } in
    record {
      long = ebr-long no_mark h no-mark-ok.long k.kept.long;
      bytes =
          bytes-append (c ++ entry_bytes p ++ entry_bytes q ++ no_mark) signature
          (bytes-append (c ++ entry_bytes p ++ entry_bytes q) no_mark
          (bytes-append (c ++ entry_bytes p) (entry_bytes q) (bytes-append c (entry_bytes p) k.kept.bytes (entry_in p ip)) (entry_in q (link-in e.sys e.starting_lba n s j)))
          no-mark-ok.bytes)
          (omega arith);
    }

-- the refusals of each EBR hold: each is on the disk
rows_inside : (d : ℕ) (ls : List LogicalPartition) → AllHold (all_rows d ls) → All (λ l. at l < d) ls
unfolding all_rows
rows_inside d [] h = tt
rows_inside d (l ∷ ls) h =
    let c = row_checks d l (next_linked (next ls None)) in
    (ltb-true (at l) d (hold-left c (all_rows d ls) h).1.0, rows_inside d ls (hold-right c (all_rows d ls) h))

-- the stores of logical partitions whose numbers fit, each on the disk
pub ebrs-storable : (d : ℕ) (e : MBRPartitionEntry) (ls : List LogicalPartition) → e.sys < 256 → All LogicalIn ls → AllHold (all_rows d ls) → All (Storable d) (ebr_stores e ls)
unfolding ebr_stores write_plain
ebrs-storable d e ls s k h = go ls k (rows_inside d ls h)
  where
    following : (ls : List LogicalPartition) → All LogicalIn ls → NextIn (next ls None)
    following [] k = tt
    following (m ∷ ms) k = k.0

    go : (ls : List LogicalPartition) → All LogicalIn ls → All (λ l. at l < d) ls → All (Storable d) (ebr_stores e ls)
    go [] k i = tt
    go (l ∷ ls) k i = (record { inside = i.0; whole = ebr-whole e l (next ls None) s k.0 (following ls k.1) }, go ls k.1 i.1)

pub header-storable : (d : ℕ) (h : MBRHeader) → 0 < d → HeaderIn h → Storable d (header_store h)
header-storable d h p k = record { inside = p; whole = header-whole h k }

-- the first-place change keeps numbers in their types
pub first-in : (X : ℕ) (ls : List LogicalPartition) → All LogicalIn ls → All LogicalIn (first_at_start X ls)
unfolding first_at_start at_start
first-in X [] k = tt
first-in X (l ∷ ls) k = (record { kept = k.0.kept; part = k.0.part; first = k.0.first; last = tt }, k.1)

-- and so do computed addresses
module _ (g : Geometry) (heads : g.heads < 256) where
  address-in : (a : ℕ) → (g.heads * g.sectors ≡ 0 → ⊥) → (address_in g a).head < 256
  address-in a z = omega (arith, head-fits a g.heads g.sectors z)

  tail-in : (a : ℕ) (m : Option ℕ) → (g.heads * g.sectors ≡ 0 → ⊥) → ChsIn (link_address g a m)
  tail-in a None z = tt
  tail-in a (Some n) z = address-in _ z

  geometry-in : (l : LogicalPartition) → LogicalIn l → AllHold (pick (complete g) (update_checks g l) []) → LogicalIn (by_geometry g l)
  unfolding update_checks addressed
  geometry-in l k h = go (complete g) h
    where
      go : (b : Bool) → AllHold (pick b (update_checks g l) []) → LogicalIn (pick b (addressed g l) l)
      go false h = k
      go true h =
          let z : (g.heads * g.sectors ≡ 0 → ⊥) = eqb-false (g.heads * g.sectors) 0 (not-true (eqb (g.heads * g.sectors) 0) h.0) in
          record {
            kept = k.kept;
            part = record { boot = k.part.boot; first = address-in _ z; sys = k.part.sys; last = address-in _ z };
            first = address-in _ z;
            last = tail-in _ l.ebr_sectors z;
          }

  all_in : (ls : List LogicalPartition) → All LogicalIn ls → AllHold (all_geometry g ls) → All LogicalIn (map (by_geometry g) ls)
  unfolding all_geometry
  all_in [] k h = tt
  all_in (l ∷ ls) k h =
      let c = pick (complete g) (update_checks g l) [] in
      (geometry-in l k.0 (hold-left c (all_geometry g ls) h), all_in ls k.1 (hold-right c (all_geometry g ls) h))

-- if it was written, each of its records is 512 bytes and on the disk
pub table-storable : (t : MBR) (x : List ℕ) (room n : ℕ) → write_says t x room ≡ gives n → TableIn t → All (Storable (disk_sectors x)) (table_stores t)
unfolding table_stores as_written logicals_checks
table-storable t x room n e k =
    let d = disk_sectors x in
    (header-storable d t.header (ltb-true 0 d (disk-held t x room n e).0) k.header, go (extended_in t) refl (chain_held t x room n e))
  where
    go : (o : Option MBRPartitionEntry) → extended_in t ≡ o → AllHold (chain_checks (geometry_of t) o (disk_sectors x) (logicals t)) → All (Storable (disk_sectors x)) (chain_stores (geometry_of t) o (logicals t))
    go None q h = tt
    go (Some p) q h =
        let X = p.starting_lba in
        let g = geometry_of t in
        let ls = first_at_start X (logicals t) in
        let o = k.header in
        let s = extended-has InByte t.header p o.one o.two o.three o.four q in
        let i = all_in g k.heads ls (first-in X (logicals t) k.all) (hold-left (all_geometry g ls) (all_rows (disk_sectors x) (as_written g X (logicals t))) h) in
        ebrs-storable (disk_sectors x) p (map (by_geometry g) ls) s.sys i (hold-right (all_geometry g ls) (all_rows (disk_sectors x) (as_written g X (logicals t))) h)

-- so the new extract is well formed, and its disk is the old one with the table's records stored in chain order
pub written-good : (t : MBR) (x : List ℕ) (room n : ℕ) → Bytes x → write_says t x room ≡ gives n → TableIn t → Good (extract_over x (table_stores t))
written-good t x room n b e k = table-good t x room n e b (table-storable t x room n e k)

pub written-disk : (t : MBR) (x : List ℕ) (room n : ℕ) → Bytes x → write_says t x room ≡ gives n → TableIn t → disk_of (extract_over x (table_stores t)) ≡ after (disk_of x) (table_stores t)
written-disk t x room n b e k = table-disk t x room n e b (table-storable t x room n e k)
