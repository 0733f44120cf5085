-- A table without logical partitions written over an extract with its header: the disk stays as it was. Assumes nothing.
use mathlib.Core.Path.{◌≡◌, refl, sym, ap, subst, ◌∙◌}
use mathlib.Core.Bool.{Bool, true, false}
use Rattle.std.specs.Prelude.{Option, None, Some}
use mathlib.Core.List.{List, [], ◌∷◌}
use Prim.Native.Nat.{ℕ}
use native.Mathlib.Omega.{arith}
use lib.Dec.{eqb}
use lib.ListN.{length}
use borrow.Author.Tests.{eq-eqb, eqb-true}
use Rattle.base.specs.Pick.{pick}
use Rattle.base.specs.Bytes.{Record}
use Rattle.base.specs.Said.{gives}
use Rattle.base.specs.Checks.{first-fail, AllHold}
use Rattle.base.proofs.Checks.{all_hold}
use Rattle.base.specs.All.{All}
use Rattle.write_rules.specs.Ranges.{HeaderIn, LogicalIn, TableIn}
use Rattle.record_entry.specs.declared.MBRPartitionEntry.{MBRPartitionEntry}
use Rattle.record_mbr.specs.declared.MBRHeader.{MBRHeader}
use Rattle.record_mbr.specs.Mbr.{mbr_bytes, MbrOk, header_checks, mbr_read_checks}
use Rattle.record_mbr.proofs.Laws.{mbr-ok, mbr-bytes-back}
use Rattle.extract.specs.Disk.{Store, stored, after}
use Rattle.extract.specs.Extract.{Good, disk_of}
use Rattle.extract.proofs.Disk.{same-equal, sector-record}
use Rattle.table.specs.declared.LogicalPartition.{LogicalPartition}
use Rattle.table.specs.declared.MBR.{MBR}
use Rattle.table.specs.Table.{logicals, extended_in}
use Rattle.read_table.specs.Read.{Table, header_on, table_of}
use Rattle.read_table.proofs.Facts.{header→facts}
use Rattle.table_remove.specs.Remove.{removed_table}
use Rattle.table_address.specs.declared.Geometry.{Geometry}
use Rattle.table_push.specs.Push.{geometry_of}
use Rattle.write_rules.specs.AsWritten.{first_at_start, as_written}
use Rattle.write_rules.specs.Write.{header_store, ebr_stores, chain_stores, table_stores}
use Rattle.write_reads_back.proofs.Parts.{header-in}

-- a header that is read: its record is what is written of it, and its numbers fit
module _ (x : List ℕ) (g : Good x) (h : MBRHeader) (e : header_on (disk_of x) ≡ gives h) where
  abbrev r : List ℕ
  r = (disk_of x).sector 0

  whole : Record r
  whole = sector-record x g 0

  reads : first-fail (mbr_read_checks r) ≡ None
  reads =
      let f = header→facts (disk_of x) h e in
      all_hold (mbr_read_checks r) (eq-eqb (length r) 512 whole.long, subst (λ (y : MBRHeader). AllHold (header_checks y)) (sym f.1) f.2)

  same_bytes : mbr_bytes h ≡ r
  same_bytes = ap mbr_bytes (sym (header→facts (disk_of x) h e).1) ∙ mbr-bytes-back r whole reads

  pub ranges : MbrOk h
  ranges = subst MbrOk (header→facts (disk_of x) h e).1 (mbr-ok r whole reads)

-- no logical partition, no EBR
no_stores : (g : Geometry) (o : Option MBRPartitionEntry) → chain_stores g o [] ≡ []
unfolding as_written first_at_start ebr_stores
no_stores g None = refl
no_stores g (Some e) = refl

pub nothing-changes : (x : List ℕ) (t : MBR) → Good x → header_on (disk_of x) ≡ gives t.header → logicals t ≡ [] → after (disk_of x) (table_stores t) ≡ disk_of x
unfolding table_stores after stored
nothing-changes x t g e q =
    ap (λ (ls : List LogicalPartition). after (disk_of x) (header_store t.header ∷ chain_stores (geometry_of t) (extended_in t) ls)) q
    ∙ ap (λ (ss : List Store). after (disk_of x) (header_store t.header ∷ ss)) (no_stores (geometry_of t) (extended_in t))
    ∙ same-equal (stored (disk_of x) (header_store t.header)) (disk_of x) (record { width = refl; size = refl; sector = λ a. go a (eqb a 0) refl })
  where
    go : (a : ℕ) (b : Bool) → eqb a 0 ≡ b → pick b (mbr_bytes t.header) ((disk_of x).sector a) ≡ (disk_of x).sector a
    go a true p = same_bytes x g t.header e ∙ ap (λ (k : ℕ). (disk_of x).sector k) (sym (eqb-true a 0 p))
    go a false p = refl

-- the table after the only logical partition was removed
module _ (u : Table) (one : length u.logicals ≡ 1) where
  pub emptied-header : (removed_table (table_of u) 5).header ≡ u.header
  unfolding table_of
  emptied-header = rw one

  pub emptied-list : logicals (removed_table (table_of u) 5) ≡ []
  unfolding table_of
  emptied-list = rw one

  emptied-heads : (removed_table (table_of u) 5).heads ≡ 0
  unfolding table_of
  emptied-heads = rw one

pub emptied-in : (x : List ℕ) (u : Table) → Good x → header_on (disk_of x) ≡ gives u.header → length u.logicals ≡ 1 → TableIn (removed_table (table_of u) 5)
emptied-in x u g e one = record {
  header = subst HeaderIn (sym (emptied-header u one)) (header-in u.header (ranges x g u.header e));
  heads = omega (arith, emptied-heads u one);
  all = subst (All LogicalIn) (sym (emptied-list u one)) tt;
}
