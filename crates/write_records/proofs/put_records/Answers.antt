use lib.ListN.{length, get_or}
use Prim.Native.Nat.{ℕ, ◌+◌, ◌*◌, ◌-◌, ◌≤◌, ◌<◌}
use mathlib.Core.Path.{◌≡◌, refl, sym, ap, subst, ◌∙◌}
use mathlib.Core.List.{List}
use native.Mathlib.Omega.{arith}
use Rattle.base.specs.Put.{put}
use Rattle.base.specs.All.{All}
use Rattle.extract.specs.Disk.{Store}
use Rattle.extract_lay.specs.declared.plan.Slot.{Slot}
use Rattle.extract.specs.Rules.{most_records}
use Rattle.extract_lay.specs.Plan.{no_slot}
use Rattle.record_entry.specs.declared.MBRPartitionEntry.{MBRPartitionEntry}
use Rattle.extract_lay.proofs.plan.Laws.{pieces_none, pieces_more, Wide}
use Rattle.table.specs.declared.LogicalPartition.{LogicalPartition}
use Rattle.block.specs.Block.{table_in, Passed}
use Rattle.write_rules.specs.AsWritten.{as_written_in}
use Rattle.write_rules.proofs.as_written.Laws.{held-long, settled-long}
use Rattle.write_rules.specs.Records.{ebr_stores}
use Rattle.write_rules.specs.Sources.{bytes_from, stores_of, slots_of, Writing, CodeLong, Valid, ebr_source}
use Rattle.write_rules.proofs.sources.Laws.{codes-held, plan-wide, valid-at, link-none, link-some, kept-source, ebr-source, kept-bytes, ebr-bytes}
use Rattle.write_records.proofs.put_records.Goals as goal
use Rattle.write_records.proofs.put_records.Goals.{then-s-lt-EBR_SOURCE, else-s-lt-EBR_SOURCE+then-j-m, else-s-lt-EBR_SOURCE+else-j-m}

-- what the call is given
record Given (x : List ℕ) (n m : ℕ) (first : List ℕ) (p : List Slot) (b : List ℕ) (e : MBRPartitionEntry) : Type 0 where
  writing : Writing x n m first
  plan : p ≡ slots_of x (as_written_in (table_in b) e.starting_lba)
  passed : Passed b
  number : m ≡ (table_in b).count
  few : length p ≤ most_records

-- the loop's facts at the entry: the slots, the logical partitions, and slot i
module _ {x : List ℕ} {n m : ℕ} {first : List ℕ} {p : List Slot} {b : List ℕ} {e : MBRPartitionEntry} (s : Given x n m first p b e) where
  abbrev ls : List LogicalPartition
  ls = as_written_in (table_in b) e.starting_lba

  abbrev f : Slot → List ℕ
  f q = bytes_from x (stores_of first e ls) q.source

  many : length ls ≡ m
  many = settled-long (table_in b) e.starting_lba (held-long b s.passed) ∙ sym s.number

  codes : All CodeLong ls
  codes = codes-held b s.passed e.starting_lba

  wide : Wide f 512 p
  wide = subst (Wide f 512) (sym s.plan) (plan-wide x n m first ls e s.writing codes)

  within : (j : ℕ) → j < m → j < length ls
  within j h = omega (arith, many)

  here : (j : ℕ) → j < m → j < (table_in b).count
  here j h = omega (arith, s.number)

  module _ (i : ℕ) (h : i < length p) where
    abbrev slot : Slot
    slot = get_or p i no_slot

    valid : Valid n m slot.source
    valid = valid-at x n m first ls e s.writing codes many p s.plan i h slot refl

    one : ebr_source ≤ slot.source → slot.source - ebr_source < m
    one k = ebr-source x n m slot.source first s.writing valid k

pub loop-i-init : goal.loop-i-init
loop-i-init c =
    let s : Given c.args.x.now c.args.n c.args.m c.args.first.now c.args.slots.now c.args.b.now c.args.e = record { writing = c.requires.writing.0; plan = c.requires.writing.1; passed = c.requires.passed.0; number = c.requires.passed.1; few = c.requires.count_le_most_records.0 } in
    pieces_none (f s) c.args.out.now c.args.at c.args.slots.now

pub put_kept-requires : goal.put_kept-requires
put_kept-requires c =
    let s : Given c.args.x.now c.args.n c.args.m c.args.first.now c.args.slots.now c.args.b.now c.args.e = record { writing = c.requires.writing.0; plan = c.requires.writing.1; passed = c.requires.passed.0; number = c.requires.passed.1; few = c.requires.count_le_most_records.0 } in
    let h : c.loop-i.i < length c.args.slots.now = c.loop-i-test.true in
    (record { good = c.requires.writing.0.good; number = c.requires.writing.0.number; few = omega arith; long = c.requires.writing.0.long }, kept-source c.args.n c.args.m _ (valid s c.loop-i.i h) c.if-s-lt-EBR_SOURCE.true, omega (arith, c.loop-i.auto.out, c.requires.count_le_most_records.2))

pub written_slot-l-requires : goal.written_slot-l-requires
written_slot-l-requires c =
    let s : Given c.args.x.now c.args.n c.args.m c.args.first.now c.args.slots.now c.args.b.now c.args.e = record { writing = c.requires.writing.0; plan = c.requires.writing.1; passed = c.requires.passed.0; number = c.requires.passed.1; few = c.requires.count_le_most_records.0 } in
    let h : c.loop-i.i < length c.args.slots.now = c.loop-i-test.true in
    (c.requires.passed.0, here s _ (one s c.loop-i.i h c.if-s-lt-EBR_SOURCE.false), c.requires.passed.2)

pub overflow_add-j : goal.overflow_add-j
overflow_add-j c =
    let s : Given c.args.x.now c.args.n c.args.m c.args.first.now c.args.slots.now c.args.b.now c.args.e = record { writing = c.requires.writing.0; plan = c.requires.writing.1; passed = c.requires.passed.0; number = c.requires.passed.1; few = c.requires.count_le_most_records.0 } in
    let h : c.loop-i.i < length c.args.slots.now = c.loop-i-test.true in
    omega (arith, one s c.loop-i.i h c.if-s-lt-EBR_SOURCE.false, c.requires.writing.0.few)

pub overflow_add-j-then-j-m : goal.overflow_add-j-then-j-m
overflow_add-j-then-j-m c =
    let s : Given c.args.x.now c.args.n c.args.m c.args.first.now c.args.slots.now c.args.b.now c.args.e = record { writing = c.requires.writing.0; plan = c.requires.writing.1; passed = c.requires.passed.0; number = c.requires.passed.1; few = c.requires.count_le_most_records.0 } in
    let h : c.loop-i.i < length c.args.slots.now = c.loop-i-test.true in
    omega (arith, one s c.loop-i.i h c.if-s-lt-EBR_SOURCE.false, c.requires.writing.0.few, c.if-j-m.true)

pub written_slot-f-requires : goal.written_slot-f-requires
written_slot-f-requires c =
    let s : Given c.args.x.now c.args.n c.args.m c.args.first.now c.args.slots.now c.args.b.now c.args.e = record { writing = c.requires.writing.0; plan = c.requires.writing.1; passed = c.requires.passed.0; number = c.requires.passed.1; few = c.requires.count_le_most_records.0 } in
    (c.requires.passed.0, here s _ c.if-j-m.true, c.requires.passed.2)

pub put_ebr-requires : goal.put_ebr-requires
put_ebr-requires c =
    let h : c.loop-i.i < length c.args.slots.now = c.loop-i-test.true in
    omega (arith, c.loop-i.auto.out, c.requires.count_le_most_records.2)

pub put_ebr-requires-else-j-m : goal.put_ebr-requires-else-j-m
put_ebr-requires-else-j-m c =
    let h : c.loop-i.i < length c.args.slots.now = c.loop-i-test.true in
    omega (arith, c.loop-i.auto.out, c.requires.count_le_most_records.2)

pub loop-i-preserved : goal.loop-i-preserved
loop-i-preserved c =
    let s : Given c.args.x.now c.args.n c.args.m c.args.first.now c.args.slots.now c.args.b.now c.args.e = record { writing = c.requires.writing.0; plan = c.requires.writing.1; passed = c.requires.passed.0; number = c.requires.passed.1; few = c.requires.count_le_most_records.0 } in
    let h : c.loop-i.i < length c.args.slots.now = c.loop-i-test.true in
    let t : c.if-s-lt-EBR_SOURCE.out ≡ put c.loop-i.out (c.args.at + c.loop-i.i * 512) (f s (slot s c.loop-i.i h)) =
    let first : Store = record { lba = 0; bytes = c.args.first.now } in
    let there = put c.loop-i.out (c.args.at + c.loop-i.i * 512) in
    let e = c.args.e in
    let q = slot s c.loop-i.i h in
    elim c.if-s-lt-EBR_SOURCE.branch [
      | then-s-lt-EBR_SOURCE w ↦ w.out-is ∙ w.put_kept.ensures ∙ ap there (kept-bytes c.args.x.now first (ebr_stores e (ls s)) q.source w.if-s-lt-EBR_SOURCE.true)
      | else-s-lt-EBR_SOURCE+then-j-m w ↦ w.out-is ∙ w.put_ebr.ensures ∙ ap there (ebr-bytes c.args.x.now first e (ls s) q.source _ _ w.if-s-lt-EBR_SOURCE.false (within s _ (one s c.loop-i.i h w.if-s-lt-EBR_SOURCE.false)) (sym w.written_slot-l.ensures) (w.link_to.ensures ∙ link-some e (ls s) _ _ (within s _ w.if-j-m.true) (sym w.written_slot-f.ensures)))
      | else-s-lt-EBR_SOURCE+else-j-m w ↦ w.out-is ∙ w.put_ebr-else-j-m.ensures ∙ ap there (ebr-bytes c.args.x.now first e (ls s) q.source _ _ w.if-s-lt-EBR_SOURCE.false (within s _ (one s c.loop-i.i h w.if-s-lt-EBR_SOURCE.false)) (sym w.written_slot-l.ensures) (w.empty.ensures ∙ link-none e (ls s) (q.source - ebr_source + 1) (omega (arith, many s, w.if-j-m.false))))
    ] in
    let l = c.args.slots.now in
    pieces_more (f s) c.args.out.now c.loop-i.out _ c.args.at 512 c.loop-i.i l no_slot (wide s) h (omega (arith, c.requires.count_le_most_records.2)) c.loop-i.invariant t
