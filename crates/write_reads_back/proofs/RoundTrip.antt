-- The round trip of lent bytes. Assumes nothing.
use mathlib.Core.Path.{◌≡◌, refl, sym, ap, ◌∙◌}
use mathlib.Core.List.{List}
use Prim.Native.Nat.{ℕ, ◌+◌}
use lib.ListN.{length, take, drop}
use lib.Seq.{take_at}
use Rattle.base.specs.Put.{put}
use Rattle.base.specs.Said.{gives, refuses}
use Rattle.base.proofs.Checks.{all_hold, answer-gives, checked-none}
use Rattle.write_rules.specs.Ranges.{TableIn}
use Rattle.extract.specs.Extract.{extract_checks, Good, disk_of}
use Rattle.extract.specs.Answers.{header_of, check_says}
use Rattle.table.specs.declared.MBR.{MBR}
use Rattle.read_table.specs.Read.{Table, header_on, read, read_says, table_of}
use Rattle.read_table.proofs.Facts.{read→reads}
use Rattle.table_remove.specs.Remove.{removed_table}
use Rattle.sound.specs.Sound.{Contents}
use Rattle.careful.specs.Demand3.{contents_on}
use Rattle.careful.proofs.Demand3.{good-read}
use Rattle.write_rules.specs.Write.{table_stores, extract_over, write_checks}
use Rattle.write_rules.specs.Answers.{write_says, write_leaves}
use Rattle.write_rules.proofs.Ranges.{written-good, written-disk}
use Rattle.write_reads_back.specs.RoundTrip.{contents_in, cleared, RoundTrip, OldStays, ReadBack}
use Rattle.write_reads_back.proofs.Shown.{disk-returns}
use Rattle.write_reads_back.proofs.Accepts.{write-accepts}
use Rattle.write_reads_back.proofs.Read.{read-returning, read-placed}
use Rattle.write_reads_back.proofs.Stays.{nothing-changes, emptied-header, emptied-list, emptied-in}

-- a good extract reads as its disk does
good-reads : (x : List ℕ) → Good x → read_says x ≡ read (disk_of x)
unfolding read_says check_says
good-reads x g = rw (checked-none (extract_checks x) refuses (gives (header_of x)) (all_hold (extract_checks x) g.rules))

good-contents : (x : List ℕ) → Good x → contents_in x ≡ contents_on (disk_of x)
unfolding contents_in contents_on
good-contents x g = rw (good-reads x g)

-- the bytes that the answer counts are the new extract
left-bytes : (t : MBR) (x out : List ℕ) (n : ℕ) → write_says t x (length out) ≡ gives n → take n (write_leaves t x out) ≡ extract_over x (table_stores t)
unfolding write_says write_leaves put
left-bytes t x out n e =
    let new = extract_over x (table_stores t) in
    let k = answer-gives (write_checks t x (length out)) (length new) n e in
    ap (take n) (checked-none (write_checks t x (length out)) (λ k. out) (put out 0 new) k.0) ∙ take_at new (drop (0 + length new) out) n k.1

pub round_trip : (t : MBR) (x out : List ℕ) → RoundTrip t x out
round_trip t x out = record {
  returns = λ r b width size n e.
      let k = r.fits.bytes in
      let new = extract_over x (table_stores t) in
      ap contents_in (left-bytes t x out n e)
      ∙ good-contents new (written-good t x (length out) n b e k)
      ∙ ap contents_on (written-disk t x (length out) n b e k)
      ∙ disk-returns t x (length out) n r b width size e;
  accepted = λ r m k g d size. write-accepts t x (length out) r m k g d size;
}

-- the old chain stays where none is written
pub old-stays : (x out : List ℕ) → OldStays x out
old-stays x out = record {
  stays = λ u q one b n e.
      let t = removed_table (table_of u) 5 in
      let g = good-read x b u q in
      let h : header_on (disk_of x) ≡ gives u.header = (read→reads (disk_of x) u g.1).header in
      let k : TableIn t = emptied-in x u g.0 h one in
      let new = extract_over x (table_stores t) in
      ap read_says (left-bytes t x out n e)
      ∙ good-reads new (written-good t x (length out) n b e k)
      ∙ ap read (written-disk t x (length out) n b e k ∙ nothing-changes x t g.0 (h ∙ ap gives (sym (emptied-header u one))) (emptied-list u one))
      ∙ g.1;
}

-- the table by value has its sector size and D
read-width : (u : Table) → u.width ≡ (table_of u).sector_size
unfolding table_of
read-width u = refl

read-size : (u : Table) → u.size ≡ (table_of u).disk_size
unfolding table_of
read-size u = refl

pub read_back : (x y out : List ℕ) → ReadBack x y out
read_back x y out = record {
  back = λ u q b s f c width size n e.
      let g = good-read x b u q in
      (round_trip (table_of u) y out).returns (read-returning x g.0 u g.1 s f) c (width ∙ read-width u) (size ∙ read-size u) n e ∙ ap (λ (t : Contents). gives (cleared t)) (read-placed x g.0 u g.1);
}
