-- What is read comes back: a sound table that a good extract reads as is a returning one. Assumes nothing.
use mathlib.Core.Path.{◌≡◌, refl, sym, ap, subst, ◌∙◌}
use Rattle.std.specs.Prelude.{Option, None, Some, unwrap_or}
use mathlib.Core.List.{List, [], ◌∷◌}
use Prim.Native.Nat.{ℕ, ◌<◌}
use native.Mathlib.Omega.{arith}
use lib.ListN.{length}
use Rattle.base.specs.Said.{gives}
use Rattle.base.specs.Row.{Row}
use Rattle.base.specs.All.{All}
use Rattle.write_reads_back.proofs.Parts.{header-in}
use Rattle.write_rules.specs.Ranges.{ChsIn, LogicalIn}
use Rattle.table.proofs.Laws.{slots-taken}
use Rattle.record_entry.specs.declared.MBRPartitionEntry.{MBRPartitionEntry}
use Rattle.record_entry.specs.Entry.{no_entry, EntryOk}
use Rattle.record_mbr.specs.declared.MBRHeader.{MBRHeader}
use Rattle.record_mbr.specs.Mbr.{MbrOk, primaries, extended_of}
use Rattle.record_mbr.proofs.Laws.{extended-has}
use Rattle.extract.specs.Disk.{Disk}
use Rattle.extract.specs.Extract.{Good, disk_of}
use Rattle.table.specs.declared.LogicalPartition.{LogicalPartition}
use Rattle.table.specs.Table.{logicals}
use Rattle.chain.specs.Chain.{Link}
use Rattle.chain.specs.Facts.{View, seen, at, link_in, body_of, leads, Held, Plain, Holds}
use Rattle.read_table.specs.Read.{Table, read, table_of}
use Rattle.read_table.specs.Facts.{Reads}
use Rattle.read_table.proofs.Facts.{read→reads}
use Rattle.table_address.specs.Address.{complete}
use Rattle.sound.specs.Sound.{contents_of, Sound}
use Rattle.careful.specs.Stores.{first_in_place}
use Rattle.careful.specs.Careful.{contents, relist, in_first_place}
use Rattle.careful.specs.Demand3.{Whole}
use Rattle.careful.proofs.Written.{BodyOk, LinkOk, seen-ok}
use Rattle.careful.proofs.Shown.{holds-heads, relist-same}
use Rattle.careful.proofs.Accepted.{first-same}
use Rattle.careful.proofs.Crate.{contents-of}
use Rattle.careful.proofs.Demand3.{whole_of}
use Rattle.write_reads_back.specs.RoundTrip.{PlaceFits, Filled, Returning}
use Rattle.write_reads_back.proofs.Stays.{ranges}

place-fits : (e : MBRPartitionEntry) → EntryOk e → PlaceFits e
place-fits e k = record { start = k.start; sectors = k.sectors }

-- what is known of the way to an EBR fits
record WayFits (k : Link) : Type 0 where
  pub first : k.first.head < 256
  pub last : ChsIn k.last

way-fits : (r : ℕ) (k : Link) → LinkOk r k → WayFits k
way-fits r k o = record { first = o.first-ok.head; last = subst ChsIn (sym o.last) o.last_ok.head }

logical-fits : (X : ℕ) (l : LogicalPartition) (n : Option LogicalPartition) → BodyOk (body_of l) → Plain X l n → WayFits (link_in l) → LogicalIn l
unfolding body_of link_in
logical-fits X l n b p w = record {
  kept = b.kept;
  part = record { boot = b.part.boot; first = b.part.first.head; sys = b.part.sys; last = b.part.last.head };
  first = w.first;
  last = w.last;
}

-- the row of facts, one after the other
row_fits : (d : Disk) → Whole d → (X : ℕ) (l : LogicalPartition) (ls : List LogicalPartition) → WayFits (link_in l) → Row (Held (seen d) X) (l ∷ ls) None → Row (Plain X) (l ∷ ls) None
    → All LogicalIn (l ∷ ls)
row_fits d w X l [] k h p = (logical-fits X l None (seen-ok d w (at l) (body_of l) (leads X None) h.0).1 p.0 k, tt)
row_fits d w X l (m ∷ ms) k h p =
    let s = seen-ok d w (at l) (body_of l) (leads X (Some m)) h.0 in
    (logical-fits X l (Some m) s.1 p.0 k, row_fits d w X m ms (way-fits _ (link_in m) s.2) h.1 p.1)

list-fits : (d : Disk) → Whole d → (h : MBRHeader) → MbrOk h → (o : Option MBRPartitionEntry) → extended_of (primaries h) ≡ o → (ls : List LogicalPartition) → Holds (seen d) o ls → All LogicalIn ls
list-fits d w h k o q [] c = tt
list-fits d w h k None q (l ∷ ls) c = absurd c
list-fits d w h k (Some e) q (l ∷ ls) c =
    let f : EntryOk e = extended-has EntryOk h e k.one k.two k.three k.four q in
    let z : WayFits (link_in l) = subst WayFits (sym c.begins.1) (record { first = f.first.head; last = tt }) in
    row_fits d w e.starting_lba l ls z c.held c.plain

-- the first of a list that was read stands in its place
placed-already : (v : ℕ → View) (o : Option MBRPartitionEntry) (ls : List LogicalPartition) → Holds v o ls → first_in_place (unwrap_or o no_entry) ls ≡ ls
unfolding first_in_place
placed-already v o [] h = refl
placed-already v None (l ∷ ls) h = absurd h
placed-already v (Some e) (l ∷ ls) h = first-same e l ls (holds-heads v e l ls h) ls

module _ (x : List ℕ) (g : Good x) (u : Table) (q : read (disk_of x) ≡ gives u) where
  facts : Reads (disk_of x) u
  facts = read→reads (disk_of x) u q

  ok : MbrOk u.header
  ok = ranges x g u.header facts.header

  pub read-returning : Sound (contents u) → Filled (extended_of (primaries u.header)) u.logicals → Returning (table_of u)
  unfolding table_of complete
  read-returning s f =
      let ls = u.logicals in
      let front : logicals (table_of u) ≡ ls = slots-taken ls in
      record {
        fits = record {
          bytes = record {
            header = header-in u.header ok;
            heads = omega arith;
            all = subst (All LogicalIn) (sym front) (list-fits (disk_of x) (whole_of x g) u.header ok (extended_of (primaries u.header)) refl ls facts.holds);
          };
          places = (
            place-fits u.header.partition_1 ok.one,
            (place-fits u.header.partition_2 ok.two, (place-fits u.header.partition_3 ok.three, (place-fits u.header.partition_4 ok.four, tt))),
          );
          signature = ap length ok.signed;
        };
        sound = subst Sound (sym (contents-of u)) s;
        no-geometry = refl;
        filled = subst (Filled (extended_of (primaries u.header))) (sym front) f;
      }

  pub read-placed : in_first_place (contents_of (table_of u)) ≡ contents u
  unfolding in_first_place
  read-placed =
      ap in_first_place (contents-of u)
      ∙ ap (relist (contents u)) (placed-already (seen (disk_of x)) (extended_of (primaries u.header)) u.logicals facts.holds)
      ∙ relist-same (contents u) u.logicals refl
