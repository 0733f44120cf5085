-- What a lay-over makes: a good extract, of the disk with that sector stored. Assumes nothing.
use mathlib.Core.Path.{◌≡◌, sym, ap, ◌∙◌}
use mathlib.Core.List.{List, ◌++◌}
use mathlib.Core.Bool.{true}
use Prim.Native.Nat.{ℕ, ◌+◌, ◌*◌, ◌≤◌, ◌<◌}
use native.Mathlib.Omega.{arith}
use lib.Dec.{eqb}
use lib.ListN.{length, take, drop}
use lib.Seq.{take-add, take_all}
use borrow.Author.Tests.{le-leb, eq-eqb}
use Rattle.base.specs.Pick.{pick, among}
use Rattle.base.specs.Bytes.{Record, bytes_of, little}
use Rattle.base.specs.Checks.{AllHold}
use Rattle.base.proofs.Checks.{hold-both}
use Rattle.extract.specs.Disk.{Store, stored}
use Rattle.extract.specs.Extract.{sector_size_of, disk_sectors, count, list_offset, record_offset, total, lbas, records, record_in, blank, size_ok, ascending, all_below, extract_checks, Good, disk_of}
use Rattle.extract.proofs.Good.{of_header, of_lbas, good-long, good-offsets, good-size, good-ascending, good-below, word_below}
use Rattle.extract.proofs.Disk.{same-equal}
use Rattle.extract_lay.specs.Layover.{lba_bytes, record_bytes, extract_bytes, laid_over, new_records, new_extract}
use Rattle.extract.specs.Header.{header_bytes}
use Rattle.extract.specs.Rules.{most_records}
use Rattle.extract_lay.proofs.Sorted.{lbas_of, Fit, over-sector, over-union, over-again, over-ascending, over_below}
use Rattle.extract_lay.proofs.Parts.{word_bytes, lbas-part, records-part, length-records, length-extract, bytes-extract, header-size, header-disk, header-count, header-list, header-records, header-total, records-back, lbas-records}
use Rattle.extract_lay.proofs.Rules.{fit-new}

-- records that an extract may hold
pub record Holds (z d : ℕ) (ss : List Store) : Type 0 where
  pub size : size_ok z ≡ true
  pub small : z < 4294967296
  pub disk : d < 4294967296
  pub fit : Fit ss
  pub few : length ss ≤ most_records
  pub order : ascending (lbas_of ss) ≡ true
  pub below : all_below d (lbas_of ss) ≡ true

-- an extract written of such records is good, and has these records
module _ (z d : ℕ) (ss : List Store) (h : Holds z d ss) where
  pub records-written : records (extract_bytes z d ss) ≡ ss
  records-written = records-back z d ss h.fit h.few

  pub lbas-written : lbas (extract_bytes z d ss) ≡ lbas_of ss
  lbas-written = sym (lbas-records (extract_bytes z d ss) 0 (count (extract_bytes z d ss))) ∙ ap lbas_of records-written

  header-holds : AllHold (of_header (extract_bytes z d ss))
  header-holds =
      let x = extract_bytes z d ss in
      let n = header-count z d ss h.few in
      let l = length-extract z d ss h.fit in
      let t = header-total z d ss h.few in (
        ap size_ok (header-size z d ss h.small) ∙ h.size,
        (
          le-leb (count x) most_records (omega (arith, h.few)),
          (
            eq-eqb (list_offset x) 24 (header-list z d ss),
            (
              eq-eqb (record_offset x) (24 + count x * 4) (omega (arith, header-records z d ss h.few)),
              (eq-eqb (total x) (24 + count x * 516) (omega arith), (eq-eqb (total x) (length x) (omega arith), tt)),
            ),
          ),
        ),
      )

  lbas-hold : AllHold (of_lbas (extract_bytes z d ss))
  lbas-hold =
      let e = header-disk z d ss h.disk in
      (ap ascending lbas-written ∙ h.order, (ap (λ k. all_below k (lbas (extract_bytes z d ss))) e ∙ ap (all_below d) lbas-written ∙ h.below, tt))

  pub good-written : Good (extract_bytes z d ss)
  unfolding extract_checks
  good-written = record {
    rules = (le-leb 24 (length (extract_bytes z d ss)) (omega (arith, length-extract z d ss h.fit)), hold-both (of_header (extract_bytes z d ss)) (of_lbas (extract_bytes z d ss)) header-holds lbas-hold);
    bytes = bytes-extract z d ss h.fit;
  }

-- a lay-over that is not refused
module _ (x : List ℕ) (g : Good x) (a : ℕ) (r : List ℕ) (k : Record r) (h : a < disk_sectors x) (m : length (new_records x a r) ≤ most_records) where
  below-disk : disk_sectors x < 4294967296
  below-disk = word_below x 4 g.bytes

  lbas-of : lbas_of (records x) ≡ lbas x
  lbas-of = lbas-records x 0 (count x)

  holds : Holds (sector_size_of x) (disk_sectors x) (new_records x a r)
  holds = record {
    size = good-size x g;
    small = word_below x 0 g.bytes;
    disk = below-disk;
    fit = fit-new x g a r (omega (arith, below-disk)) k;
    few = m;
    order = over-ascending (record { lba = a; bytes = r }) (records x) (ap ascending lbas-of ∙ good-ascending x g);
    below = over_below (disk_sectors x) (record { lba = a; bytes = r }) (records x) h (ap (all_below (disk_sectors x)) lbas-of ∙ good-below x g);
  }

  -- it is a well-formed extract with the same sector size and D
  pub new-good : Good (new_extract x a r)
  unfolding new_extract
  new-good = good-written (sector_size_of x) (disk_sectors x) (new_records x a r) holds

  pub new-size : sector_size_of (new_extract x a r) ≡ sector_size_of x
  unfolding new_extract
  new-size = header-size (sector_size_of x) (disk_sectors x) (new_records x a r) (word_below x 0 g.bytes)

  pub new-disk : disk_sectors (new_extract x a r) ≡ disk_sectors x
  unfolding new_extract
  new-disk = header-disk (sector_size_of x) (disk_sectors x) (new_records x a r) below-disk

  -- with the records laid over
  pub new-records : records (new_extract x a r) ≡ new_records x a r
  unfolding new_extract
  new-records = records-written (sector_size_of x) (disk_sectors x) (new_records x a r) holds

  -- the LBAs are the union
  pub new-union : (b : ℕ) → among b (lbas (new_extract x a r)) ≡ pick (eqb b a) true (among b (lbas x))
  new-union b =
      ap (among b) (sym (lbas-records (new_extract x a r) 0 (count (new_extract x a r))) ∙ ap lbas_of new-records)
      ∙ over-union (record { lba = a; bytes = r }) (records x) b
      ∙ ap (λ ls. pick (eqb b a) true (among b ls)) lbas-of

  -- its disk is the disk with that sector stored
  pub new-sector : (b : ℕ) → (disk_of (new_extract x a r)).sector b ≡ (stored (disk_of x) (record { lba = a; bytes = r })).sector b
  unfolding disk_of stored
  new-sector b = ap (λ ss. record_in blank ss b) new-records ∙ over-sector blank (record { lba = a; bytes = r }) (records x) b

  pub new-stored : disk_of (new_extract x a r) ≡ stored (disk_of x) (record { lba = a; bytes = r })
  unfolding disk_of stored
  new-stored =
      same-equal (disk_of (new_extract x a r)) (stored (disk_of x) (record { lba = a; bytes = r }))
      (record { width = new-size; size = new-disk; sector = new-sector })

  -- laying the same record again changes nothing
  pub new-again : new_extract (new_extract x a r) a r ≡ new_extract x a r
  unfolding new_extract
  new-again =
      let s : Store = record { lba = a; bytes = r } in
      ap (λ ss. extract_bytes (sector_size_of (new_extract x a r)) (disk_sectors (new_extract x a r)) (laid_over s ss)) new-records
      ∙ ap (extract_bytes (sector_size_of (new_extract x a r)) (disk_sectors (new_extract x a r))) (over-again s (records x))
      ∙ ap (λ n. extract_bytes n (disk_sectors (new_extract x a r)) (new_records x a r)) new-size
      ∙ ap (λ n. extract_bytes (sector_size_of x) n (new_records x a r)) new-disk

-- a good extract is what its records make
join : (x y z : List ℕ) (a b : ℕ) → y ≡ take a x → z ≡ take b (drop a x) → y ++ z ≡ take (a + b) x
join x y z a b e f = rw (e, f) (sym (take-add a b x))

header-again : (x : List ℕ) → Good x → header_bytes (sector_size_of x) (disk_sectors x) (count x) ≡ take 24 x
unfolding header_bytes
header-again x g =
    let w = bytes_of little 4 in
    let l = good-long x g in
    let o = good-offsets x g in
    let z = word_bytes x 0 g.bytes (omega arith) in
    let d = word_bytes x 4 g.bytes (omega arith) in
    let n = word_bytes x 8 g.bytes (omega arith) in
    let p = ap w (sym o.0) ∙ word_bytes x 12 g.bytes (omega arith) in
    let q = ap w (sym o.1) ∙ word_bytes x 16 g.bytes (omega arith) in
    let r = ap w (sym o.2) ∙ word_bytes x 20 g.bytes (omega arith) in
    let zd = join x (w (sector_size_of x)) (w (disk_sectors x)) 4 4 z d in
    let zn = join x (w (sector_size_of x) ++ w (disk_sectors x)) (w (count x)) 8 4 zd n in
    let zp = join x (w (sector_size_of x) ++ w (disk_sectors x) ++ w (count x)) (w 24) 12 4 zn p in
    let zq = join x (w (sector_size_of x) ++ w (disk_sectors x) ++ w (count x) ++ w 24) (w (24 + count x * 4)) 16 4 zp q in
    join x (w (sector_size_of x) ++ w (disk_sectors x) ++ w (count x) ++ w 24 ++ w (24 + count x * 4)) (w (24 + count x * 516)) 20 4 zq r

pub extract-again : (x : List ℕ) → Good x → extract_bytes (sector_size_of x) (disk_sectors x) (records x) ≡ x
unfolding extract_bytes
extract-again x g =
    let l = good-long x g in
    let c = length-records x 0 (count x) in
    let t = header_bytes (sector_size_of x) (disk_sectors x) in
    let i : 24 + count x * 4 + 0 * 512 ≡ 24 + count x * 4 = omega arith in
    let h = ap t c ∙ header-again x g in
    let b = lbas-part x g.bytes 0 (count x) (omega arith) in
    let r = records-part x 0 (count x) ∙ ap (λ k. take (count x * 512) (drop k x)) i in
    let hb = join x (t (length (records x))) (lba_bytes (records x)) 24 (count x * 4) h b in
    join x (t (length (records x)) ++ lba_bytes (records x)) (record_bytes (records x)) (24 + count x * 4) (count x * 512) hb r
    ∙ take_all (24 + count x * 4 + count x * 512) x (omega arith)
