-- The disk with a returning table's records stored reads as that table under the first-place rule, its marks cleared. Assumes nothing.
use mathlib.Core.Path.{◌≡◌, refl, sym, ap, subst, ◌∙◌}
use Rattle.std.specs.Prelude.{Option, None, Some, unwrap_or}
use mathlib.Core.List.{List, [], ◌∷◌, map}
use Prim.Native.Nat.{ℕ, zero, suc, ◌^◌, ◌≤◌, ◌<◌}
use native.Mathlib.Nat.{add-zero}
use native.Mathlib.Omega.{arith}
use lib.ListN.{length, take, length-map}
use borrow.Author.Tests.{ltb-true, leb-true}
use Rattle.base.specs.Bytes.{Bytes}
use Rattle.base.specs.Said.{gives}
use Rattle.base.specs.Row.{next, Row}
use Rattle.base.specs.Checks.{AllHold}
use Rattle.base.proofs.Checks.{hold-right}
use Rattle.base.specs.All.{All}
use Rattle.write_rules.specs.Ranges.{LogicalIn}
use Rattle.record_entry.specs.declared.MBRPartitionEntry.{MBRPartitionEntry}
use Rattle.record_entry.specs.Entry.{no_entry, end_of}
use Rattle.record_mbr.specs.Mbr.{mbr_of}
use Rattle.record_mbr.proofs.Laws.{mbr-back}
use Rattle.extract.specs.Disk.{Disk, Store, stored, after}
use Rattle.extract.specs.Extract.{sector_size_of, disk_sectors, disk_of}
use Rattle.extract.proofs.Disk.{sector-same, size-stored, size-after, width-after, width_of, size_of}
use Rattle.extract.proofs.Good.{word_below}
use Rattle.table.specs.declared.LogicalPartition.{LogicalPartition}
use Rattle.table.specs.declared.MBR.{MBR}
use Rattle.table.specs.Table.{most, logicals, parts, extended_in}
use Rattle.chain.specs.Facts.{seen, link_in, body_of, Held, Holds}
use Rattle.read_table.proofs.Facts.{facts→header}
use Rattle.table_push.specs.Push.{geometry_of}
use Rattle.chain.specs.Links.{ebr_for}
use Rattle.write_rules.specs.Records.{write_plain}
use Rattle.write_rules.specs.AsWritten.{at_start, first_at_start, all_geometry, as_written, logicals_checks, all_rows}
use Rattle.write_rules.specs.Write.{header_store, ebr_stores, chain_stores, chain_checks, table_stores, write_checks}
use Rattle.write_rules.specs.Answers.{write_says}
use Rattle.write_rules.proofs.Over.{all_held, disk-held, chain_held}
use Rattle.sound.specs.Sound.{Contents, contents_of, primaries_of, LogicalChs, FirstAt, Owned}
use Rattle.sound.proofs.Good.{Good, Area, area_of, extended-small, sound-first, sound-row}
use Rattle.careful.specs.Stores.{moved, first_in_place}
use Rattle.careful.specs.Careful.{relist, in_first_place}
use Rattle.careful.specs.Demand3.{contents_on}
use Rattle.careful.proofs.Places.{Fit, fit_of, off-over}
use Rattle.careful.proofs.Aligned.{aligned}
use Rattle.careful.proofs.Shown.{Shows, shows→contents, plain_of}
use Rattle.careful.proofs.Push.{Writable}
use Rattle.careful.proofs.Remove.{first-stays, moved-heads, moved-good, moved-writable}
use Rattle.write_reads_back.specs.RoundTrip.{Filled, Returning, unmarked, cleared}
use Rattle.write_reads_back.proofs.Rows.{Storing, off-after, row-unmarked, row-stored, storing}
use Rattle.write_reads_back.proofs.Parts.{header_ok, header-holds, writables, linkables, by-none, primaries-aligned}

-- at most so many are taken
take-few : {A : Type 0} (k : ℕ) (ls : List A) → length (take k ls) ≤ k
take-few zero ls = omega arith
take-few (suc k) [] = omega arith
take-few (suc k) (l ∷ ls) = omega (arith, take-few k ls)

-- the EBR of the first says no more of the way to it than the rule keeps
same-stores : (e : MBRPartitionEntry) (l : LogicalPartition) (ls : List LogicalPartition) → ebr_stores e (at_start e.starting_lba l ∷ ls) ≡ ebr_stores e (moved e l ∷ ls)
unfolding ebr_stores write_plain ebr_for body_of at_start moved
same-stores e l ls = refl

module _ (t : MBR) (x : List ℕ) (room n : ℕ) (r : Returning t) (b : Bytes x) (width : sector_size_of x ≡ t.sector_size) (size : disk_sectors x ≡ t.disk_size)
    (says : write_says t x room ≡ gives n) where
  abbrev c : Contents
  c = contents_of t

  abbrev d₀ : Disk
  d₀ = stored (disk_of x) (header_store t.header)

  small : t.disk_size < 2 ^ 32
  small = omega (arith, word_below x 4 b)

  above : 0 < t.disk_size
  above = omega (arith, ltb-true 0 (disk_sectors x) (disk-held t x room n says).0)

  few : length (logicals t) ≤ most
  unfolding write_checks
  few = omega (arith, take-few t.count t.logical_partitions, leb-true t.count most (all_held t x room n says).0)

  -- with sector 0 kept from then on, and a chain that is held
  shown : (ss : List Store) (ls : List LogicalPartition) → (after d₀ ss).sector 0 ≡ d₀.sector 0 → Holds (seen (after d₀ ss)) (extended_in t) ls → Shows (after d₀ ss) (relist c ls)
  unfolding relist after
  shown ss ls z h =
      let all : List Store = header_store t.header ∷ ss in
      let D : (after d₀ ss).size ≡ t.disk_size = size-after (disk_of x) all ∙ size_of x ∙ size in
      record {
        width = width-after (disk_of x) all ∙ width_of x ∙ width;
        size = D;
        header =
            facts→header (after d₀ ss) t.header (omega (arith, above))
            (ap mbr_of (z ∙ sector-same (disk_of x) (header_store t.header)) ∙ mbr-back t.header (header_ok t r.fits r.sound))
            (header-holds t r.fits r.sound);
        holds = h;
      }

  -- an extended entry and its logical partitions
  module _ (e : MBRPartitionEntry) (q : extended_in t ≡ Some e) (l : LogicalPartition) (ls : List LogicalPartition) (p : logicals t ≡ l ∷ ls)
      (h : AllHold (logicals_checks (geometry_of t) e.starting_lba (disk_sectors x) (l ∷ ls))) where
    abbrev X : ℕ
    X = e.starting_lba

    abbrev ms : List LogicalPartition
    ms = moved e l ∷ ls

    area : Area t.disk_size e
    area = area_of c e r.sound q

    goods : Row (Good (end_of e)) ms None
    goods =
        let f : FirstAt X (l ∷ ls) = subst (FirstAt X) p (sound-first c e r.sound q) in
        let g : Row (Good (end_of e)) (l ∷ ls) None = subst (λ (k : List LogicalPartition). Row (Good (end_of e)) k None) p (sound-row c e r.sound q) in
        (moved-good e t.disk_size l (next ls None) area (first-stays e l f g.0.place) g.0, g.1)

    fits : Row (Fit (end_of e)) ms None
    fits = fit_of (end_of e) ms None goods

    chs : All LogicalChs (l ∷ ls)
    chs = subst (All LogicalChs) p r.sound.addresses.1

    typed : All LogicalIn (l ∷ ls)
    typed = subst (All LogicalIn) p r.fits.bytes.all

    rows : AllHold (all_rows (disk_sectors x) (at_start X l ∷ ls))
    unfolding logicals_checks as_written first_at_start
    rows =
        let g = geometry_of t in
        subst (λ (k : List LogicalPartition). AllHold (all_rows (disk_sectors x) k)) (by-none g r.no-geometry (at_start X l ∷ ls))
        (hold-right (all_geometry g (first_at_start X (l ∷ ls))) (all_rows (disk_sectors x) (as_written g X (l ∷ ls))) h)

    stores : Row (Storing X t.disk_size) ms None
    stores =
        let w : All Writable (l ∷ ls) = writables (l ∷ ls) chs typed in
        storing X (end_of e) t.disk_size area.ends small (moved e l) ls (omega (arith, (moved-heads e l ls).0)) goods (moved-writable e l w.0, w.1)
        (linkables (disk_sectors x) (at_start X l) ls chs.1 typed.1 rows)

    held : Row (Held (seen (after d₀ (ebr_stores e ms))) X) (map unmarked ms) None
    held =
        row-stored e (end_of e) t.disk_size ms d₀ (extended-small e.sys area.ext) (size-stored (disk_of x) (header_store t.header) ∙ size_of x ∙ size) fits stores

    zeroth : (after d₀ (ebr_stores e ms)).sector 0 ≡ d₀.sector 0
    zeroth = off-after e ms d₀ 0 (off-over (end_of e) 0 (moved e l) ls None fits (omega (arith, (moved-heads e l ls).0, area.start)))

    holds : Holds (seen (after d₀ (ebr_stores e ms))) (Some e) (map unmarked ms)
    unfolding unmarked link_in
    holds = record {
      begins = ((moved-heads e l ls).0 ∙ sym (add-zero X), (moved-heads e l ls).1);
      held = held;
      plain = row-unmarked X ms (plain_of X (end_of e) (moved e l) ls (moved-heads e l ls).0 (omega (arith, area.ends, small)) fits);
      few = omega (arith, length-map ms unmarked, subst (λ (k : List LogicalPartition). length k ≤ most) p few);
    }

    ebrs : chain_stores (geometry_of t) (Some e) (l ∷ ls) ≡ ebr_stores e ms
    unfolding as_written first_at_start
    ebrs = ap (ebr_stores e) (by-none (geometry_of t) r.no-geometry (at_start X l ∷ ls)) ∙ same-stores e l ls

    chained : contents_on (after d₀ (chain_stores (geometry_of t) (Some e) (l ∷ ls))) ≡ gives (relist c (map unmarked ms))
    unfolding relist
    chained =
        ap (λ (ss : List Store). contents_on (after d₀ ss)) ebrs
        ∙ shows→contents (after d₀ (ebr_stores e ms)) (relist c (map unmarked ms)) (shown (ebr_stores e ms) (map unmarked ms) zeroth (rw q holds))
        (aligned e (primaries_of c) (parts (map unmarked ms)) q area.start)

  -- by cases of the extended entry and the list
  by_cases : (o : Option MBRPartitionEntry) → extended_in t ≡ o → (ls : List LogicalPartition) → logicals t ≡ ls → Filled o ls → Owned o ls
      → AllHold (chain_checks (geometry_of t) o (disk_sectors x) ls)
      → contents_on (after d₀ (chain_stores (geometry_of t) o ls)) ≡ gives (relist c (map unmarked (first_in_place (unwrap_or o no_entry) ls)))
  unfolding first_in_place relist after
  by_cases None q [] p f w h = shows→contents d₀ (relist c []) (shown [] [] refl (rw q tt)) (primaries-aligned (primaries_of c) r.sound.starts)
  by_cases None q (l ∷ ls) p f w h = absurd w
  by_cases (Some e) q [] p f w h = absurd f
  by_cases (Some e) q (l ∷ ls) p f w h = chained e q l ls p h

  pub disk-returns : contents_on (after (disk_of x) (table_stores t)) ≡ gives (cleared (in_first_place c))
  unfolding table_stores in_first_place cleared relist after
  disk-returns = by_cases (extended_in t) refl (logicals t) refl r.filled r.sound.owned (chain_held t x room n says)
