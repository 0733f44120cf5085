-- A returning table with its link fields is refused for room only. Assumes nothing.
use mathlib.Core.Path.{◌≡◌, refl, sym, ap, subst, ◌∙◌}
use mathlib.Core.Bool.{false}
use Rattle.std.specs.Prelude.{Option, None, Some}
use mathlib.Core.List.{List, [], ◌∷◌}
use Prim.Native.Nat.{ℕ, ◌≤◌, ◌<◌}
use native.Mathlib.Omega.{arith}
use lib.Dec.{ltb}
use lib.ListN.{length}
use borrow.Author.Tests.{lt-ltb, le-leb}
use Rattle.base.specs.Said.{gives, refuses}
use Rattle.base.specs.Row.{Row}
use Rattle.base.specs.Checks.{AllHold, answer}
use Rattle.base.proofs.Checks.{hold-both, append-holds}
use Rattle.base.specs.All.{All}
use Rattle.record_entry.specs.declared.MBRPartitionEntry.{MBRPartitionEntry}
use Rattle.record_entry.specs.Entry.{end_of}
use Rattle.record_mbr.specs.Mbr.{header_checks}
use Rattle.extract.specs.Extract.{disk_sectors, extract_checks}
use Rattle.table.specs.declared.LogicalPartition.{LogicalPartition}
use Rattle.table.specs.declared.MBR.{MBR}
use Rattle.table.specs.Table.{most, logicals, extended_in}
use Rattle.chain.specs.Facts.{at}
use Rattle.table_address.specs.declared.Geometry.{Geometry}
use Rattle.table_address.specs.Address.{complete}
use Rattle.table_push.specs.Push.{geometry_of}
use Rattle.write_rules.specs.AsWritten.{at_start, first_at_start, all_geometry, as_written, logicals_checks, all_rows}
use Rattle.write_rules.specs.Write.{table_stores, extract_over, written_room, chain_checks, disk_checks, chain_on, disk_on, header_refusals, write_checks}
use Rattle.write_rules.specs.Answers.{write_says}
use Rattle.sound.specs.Is.{later}
use Rattle.sound.specs.Sound.{contents_of, FirstAt}
use Rattle.sound.proofs.Good.{Good, Area, area_of, sound-first, sound-row}
use Rattle.sound.proofs.Test.{is-flag}
use Rattle.careful.proofs.Places.{Fit, good-fit, fit_of, Under, row_under}
use Rattle.write_reads_back.specs.RoundTrip.{HasLink, Returning}
use Rattle.write_reads_back.proofs.Parts.{header-holds, by-none}

-- no address is computed
no-addresses : (g : Geometry) → complete g ≡ false → (ls : List LogicalPartition) → AllHold (all_geometry g ls)
unfolding all_geometry
no-addresses g c [] = tt
no-addresses g c (l ∷ ls) = rw c (no-addresses g c ls)

-- each EBR is on the disk, with a right flag, and what follows has its link fields
rows-hold : (hi d : ℕ) → hi ≤ d → (l : LogicalPartition) (ls : List LogicalPartition) → Row (Good hi) (l ∷ ls) None → All HasLink ls → AllHold (all_rows d (l ∷ ls))
unfolding all_rows
rows-hold hi d h l [] g k =
    let f : Fit hi l None = good-fit hi l None g.0 in
    ((is-flag l.partition).from g.0.own.flag, (lt-ltb (at l) d (omega (arith, f.above, f.ends)), (refl, tt)))
rows-hold hi d h l (m ∷ ms) g k =
    let f : Fit hi l (Some m) = good-fit hi l (Some m) g.0 in
    let u : Row (Under hi) (l ∷ m ∷ ms) None = row_under hi hi (l ∷ m ∷ ms) None (fit_of hi (l ∷ m ∷ ms) None g) (omega arith) in (
      (is-flag l.partition).from g.0.own.flag,
      (lt-ltb (at l) d (omega (arith, f.above, u.0)), (k.0, rows-hold hi d h m ms g.1 k.1)),
    )

-- so they do with the first at X, where it was
first-hold : (X d : ℕ) (l : LogicalPartition) (ls : List LogicalPartition) → at l ≡ X → AllHold (all_rows d (l ∷ ls)) → AllHold (all_rows d (at_start X l ∷ ls))
unfolding all_rows at_start
first-hold X d l ls e h = (h.0, (ap (λ a. ltb a d) (sym e) ∙ h.1.0, h.1.1))

module _ (t : MBR) (x : List ℕ) (room : ℕ) (r : Returning t) (few : t.count ≤ most) (k : All HasLink (later (logicals t))) (good : AllHold (extract_checks x))
    (above : 0 < disk_sectors x) (size : disk_sectors x ≡ t.disk_size) where
  chain-holds : (o : Option MBRPartitionEntry) → extended_in t ≡ o → (ls : List LogicalPartition) → logicals t ≡ ls → All HasLink (later ls)
      → AllHold (chain_checks (geometry_of t) o (disk_sectors x) ls)
  unfolding logicals_checks as_written first_at_start all_geometry all_rows
  chain-holds None q ls p k = tt
  chain-holds (Some e) q [] p k = tt
  chain-holds (Some e) q (l ∷ ls) p k =
      let X = e.starting_lba in
      let g = geometry_of t in
      let a : Area t.disk_size e = area_of (contents_of t) e r.sound q in
      let first : FirstAt X (l ∷ ls) = subst (FirstAt X) p (sound-first (contents_of t) e r.sound q) in
      let rows : Row (Good (end_of e)) (l ∷ ls) None =
      subst (λ (m : List LogicalPartition). Row (Good (end_of e)) m None) p (sound-row (contents_of t) e r.sound q) in
      hold-both (all_geometry g (first_at_start X (l ∷ ls))) (all_rows (disk_sectors x) (as_written g X (l ∷ ls))) (no-addresses g r.no-geometry (first_at_start X (l ∷ ls)))
      (subst (λ (m : List LogicalPartition). AllHold (all_rows (disk_sectors x) m)) (sym (by-none g r.no-geometry (at_start X l ∷ ls)))
      (first-hold X (disk_sectors x) l ls first (rows-hold (end_of e) (disk_sectors x) (omega (arith, a.ends)) l ls rows k)))

  pub write-accepts : write_says t x room ≡ answer (written_room x (table_stores t) room) (length (extract_over x (table_stores t)))
  unfolding write_says write_checks
  write-accepts =
      let new = gives (length (extract_over x (table_stores t))) in
      let chain = chain_checks (geometry_of t) (extended_in t) (disk_sectors x) (logicals t) in
      rw (le-leb t.count most few)
      (append-holds (extract_checks x) (header_refusals t x room) refuses new good
      ∙ append-holds (header_checks t.header) (disk_on t x room) refuses new (header-holds t r.fits r.sound)
      ∙ append-holds (disk_checks x) (chain_on t x room) refuses new (lt-ltb 0 (disk_sectors x) above, tt)
      ∙ append-holds chain (written_room x (table_stores t) room) refuses new (chain-holds (extended_in t) refl (logicals t) refl k))
