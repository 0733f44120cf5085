-- What writing makes: a good extract, of the disk with these records stored in their order. Assumes nothing.
use mathlib.Core.Path.{◌≡◌, refl, sym, ap, ◌∙◌}
use mathlib.Core.List.{List, [], ◌∷◌}
use mathlib.Core.Bool.{true}
use Prim.Native.Nat.{ℕ, ◌≤◌, ◌<◌}
use native.Mathlib.Omega.{arith}
use lib.Dec.{eqb}
use lib.ListN.{length}
use borrow.Author.Tests.{leb-true}
use Rattle.base.specs.Pick.{pick}
use Rattle.base.specs.Bytes.{Bytes, Record}
use Rattle.base.specs.Said.{gives}
use Rattle.base.specs.Checks.{AllHold}
use Rattle.base.proofs.Checks.{none-fails, hold-left, hold-right, answer-gives}
use Rattle.base.specs.All.{All}
use Rattle.record_mbr.specs.Mbr.{header_checks}
use Rattle.extract.specs.Disk.{Disk, Store, stored, after}
use Rattle.extract.specs.Extract.{sector_size_of, disk_sectors, count, lbas, records, record_in, blank, ascending, all_below, extract_checks, Good, disk_of}
use Rattle.extract.specs.Rules.{most_records}
use Rattle.extract.proofs.Good.{good-size, good-ascending, good-below, word_below}
use Rattle.extract.proofs.Disk.{same-equal, size-after, width-after}
use Rattle.extract_lay.specs.Layover.{laid_over}
use Rattle.extract_lay.proofs.Sorted.{lbas_of, Fit, over-sector, over-ascending, over_below, over-fit}
use Rattle.extract_lay.proofs.Parts.{header-size, header-disk, lbas-records}
use Rattle.extract_lay.proofs.Rules.{fit-records}
use Rattle.extract_lay.proofs.Laws.{Holds, good-written, records-written}
use Rattle.table.specs.declared.MBR.{MBR}
use Rattle.table.specs.Table.{logicals, extended_in}
use Rattle.table_push.specs.Push.{geometry_of}
use Rattle.write_rules.specs.Write.{table_stores, written_room, chain_checks, disk_checks, chain_on, disk_on, header_refusals, write_checks}
use Rattle.write_rules.specs.Records.{laid_all, extract_over}
use Rattle.write_rules.specs.Answers.{write_says}

-- a store that an extract of d sectors may hold
pub record Storable (d : ℕ) (s : Store) : Type 0 where
  pub inside : s.lba < d
  pub whole : Record s.bytes

fit_all : (d : ℕ) (ss rs : List Store) → d < 4294967296 → All (Storable d) ss → Fit rs → Fit (laid_all ss rs)
unfolding laid_all
fit_all d [] rs k h f = f
fit_all d (s ∷ ss) rs k h f = fit_all d ss (laid_over s rs) k h.1 (over-fit s rs (omega (arith, h.0.inside)) h.0.whole f)

order-all : (ss rs : List Store) → ascending (lbas_of rs) ≡ true → ascending (lbas_of (laid_all ss rs)) ≡ true
unfolding laid_all
order-all [] rs e = e
order-all (s ∷ ss) rs e = order-all ss (laid_over s rs) (over-ascending s rs e)

below_all : (d : ℕ) (ss rs : List Store) → All (Storable d) ss → all_below d (lbas_of rs) ≡ true → all_below d (lbas_of (laid_all ss rs)) ≡ true
unfolding laid_all
below_all d [] rs h e = e
below_all d (s ∷ ss) rs h e = below_all d ss (laid_over s rs) h.1 (over_below d s rs h.0.inside e)

sector-all : (other : List ℕ) (ss rs : List Store) (d : Disk) → ((b : ℕ) → d.sector b ≡ record_in other rs b) → (a : ℕ) → (after d ss).sector a ≡ record_in other (laid_all ss rs) a
unfolding laid_all after stored
sector-all other [] rs d h a = h a
sector-all other (s ∷ ss) rs d h a =
    sector-all other ss (laid_over s rs) (stored d s)
    (λ b. ap (λ (r : List ℕ). pick (eqb b s.lba) s.bytes r) (h b) ∙ sym (over-sector other s rs b)) a

module _ (x : List ℕ) (g : Good x) (ss : List Store) (h : All (Storable (disk_sectors x)) ss) (m : length (laid_all ss (records x)) ≤ most_records) where
  below-disk : disk_sectors x < 4294967296
  below-disk = word_below x 4 g.bytes

  lbas-of : lbas_of (records x) ≡ lbas x
  lbas-of = lbas-records x 0 (count x)

  holds : Holds (sector_size_of x) (disk_sectors x) (laid_all ss (records x))
  holds = record {
    size = good-size x g;
    small = word_below x 0 g.bytes;
    disk = below-disk;
    fit = fit_all (disk_sectors x) ss (records x) below-disk h (fit-records x g);
    few = m;
    order = order-all ss (records x) (ap ascending lbas-of ∙ good-ascending x g);
    below = below_all (disk_sectors x) ss (records x) h (ap (all_below (disk_sectors x)) lbas-of ∙ good-below x g);
  }

  -- it is well formed
  pub over-good : Good (extract_over x ss)
  unfolding extract_over
  over-good = good-written (sector_size_of x) (disk_sectors x) (laid_all ss (records x)) holds

  -- with the same sector size and D
  pub over-size : sector_size_of (extract_over x ss) ≡ sector_size_of x
  unfolding extract_over
  over-size = header-size (sector_size_of x) (disk_sectors x) (laid_all ss (records x)) (word_below x 0 g.bytes)

  pub over-sectors : disk_sectors (extract_over x ss) ≡ disk_sectors x
  unfolding extract_over
  over-sectors = header-disk (sector_size_of x) (disk_sectors x) (laid_all ss (records x)) below-disk

  pub over-records : records (extract_over x ss) ≡ laid_all ss (records x)
  unfolding extract_over
  over-records = records-written (sector_size_of x) (disk_sectors x) (laid_all ss (records x)) holds

  -- its disk is the old one with these records stored, in their order
  pub over-disk : disk_of (extract_over x ss) ≡ after (disk_of x) ss
  unfolding disk_of
  over-disk =
      same-equal (disk_of (extract_over x ss)) (after (disk_of x) ss)
      (record {
        width = over-size ∙ sym (width-after (disk_of x) ss);
        size = over-sectors ∙ sym (size-after (disk_of x) ss);
        sector = λ a. ap (λ (rs : List Store). record_in blank rs a) over-records ∙ sym (sector-all blank ss (records x) (disk_of x) (λ b. refl) a);
      })

-- a table that was written: the old extract was good, and there is room
module _ (t : MBR) (x : List ℕ) (room n : ℕ) (e : write_says t x room ≡ gives n) where
  pub all_held : AllHold (write_checks t x room)
  unfolding write_says
  all_held = none-fails (write_checks t x room) (answer-gives (write_checks t x room) (length (extract_over x (table_stores t))) n e).0

  pub was-good : AllHold (extract_checks x)
  unfolding write_checks
  was-good = hold-left (extract_checks x) (header_refusals t x room) all_held.1

  rest-held : AllHold (disk_on t x room)
  unfolding write_checks
  rest-held = hold-right (header_checks t.header) (disk_on t x room) (hold-right (extract_checks x) (header_refusals t x room) all_held.1)

  pub disk-held : AllHold (disk_checks x)
  disk-held = hold-left (disk_checks x) (chain_on t x room) rest-held

  pub chain_held : AllHold (chain_checks (geometry_of t) (extended_in t) (disk_sectors x) (logicals t))
  chain_held =
      hold-left (chain_checks (geometry_of t) (extended_in t) (disk_sectors x) (logicals t)) (written_room x (table_stores t) room)
      (hold-right (disk_checks x) (chain_on t x room) rest-held)

  pub has_room : length (laid_all (table_stores t) (records x)) ≤ most_records
  unfolding written_room
  has_room =
      let c = hold-right (disk_checks x) (chain_on t x room) rest-held in
      let d = hold-right (chain_checks (geometry_of t) (extended_in t) (disk_sectors x) (logicals t)) (written_room x (table_stores t) room) c in
      leb-true (length (laid_all (table_stores t) (records x))) most_records d.0

  pub table-good : Bytes x → All (Storable (disk_sectors x)) (table_stores t) → Good (extract_over x (table_stores t))
  table-good b h = over-good x (record { rules = was-good; bytes = b }) (table_stores t) h has_room

  pub table-disk : Bytes x → All (Storable (disk_sectors x)) (table_stores t) → disk_of (extract_over x (table_stores t)) ≡ after (disk_of x) (table_stores t)
  table-disk b h = over-disk x (record { rules = was-good; bytes = b }) (table_stores t) h has_room
