use mathlib.Core.List.{List}
use mathlib.Core.Path.{◌≡◌, sym, ap}
use Prim.Native.Nat.{ℕ}
use lib.ListN.{take}
use Rattle.std.specs.Prelude.{None, Result, Ok}
use Rattle.base.specs.declared.Refusal.{Refusal}
use Rattle.base.specs.Said.{answered}
use Rattle.base.specs.Checks.{answer, first-fail}
use Rattle.table.specs.declared.LogicalPartition.{LogicalPartition}
use Rattle.block.specs.Block.{Passed, slots_put}
use Rattle.block.specs.Fits.{SlotsFit}
use Rattle.write_rules.specs.AsWritten.{slots_geometry}
use Rattle.write_rules.proofs.Said.{answered-ok, ok-injective}
use lib.ListN.{get_or}
use Prim.Native.Nat.{◌<◌}
use mathlib.Core.Path.{◌∙◌}
use native.Mathlib.Omega.{arith}
use Rattle.block.specs.Block.{table_in}
use Rattle.table.specs.Table.{logicals, no_logical}
use Rattle.table_push.specs.Push.{geometry_of}
use Rattle.write_rules.specs.AsWritten.{first_at_start, slot_geometry, as_written_in}
use Rattle.write_block.proofs.written_slots.Laws.{leave-start, turn-held, turn_in, turn-none, turn-same, turn-put, leave-end}
use borrow.Author.Rules.{rules}
use Rattle.write_block.proofs.written_slots.put_slots.Goals as goal

-- the logical partition of a slot that is not refused
module _ (d b : List ℕ) (x i : ℕ) (h : Passed d) (k : i < (table_in d).count) (s : SlotsFit (take i (as_written_in (table_in d) x))) (e : b ≡ slots_put d (take i (as_written_in (table_in d) x))) (g : first-fail (slots_geometry (table_in d) x) ≡ None) where
  turn-ok : (r : Result LogicalPartition Refusal)
      → answered r ≡ answer (slot_geometry (geometry_of (table_in b)) (get_or (first_at_start x (logicals (table_in b))) i no_logical)) (get_or (as_written_in (table_in b) x) i no_logical)
      → r ≡ Ok (get_or (as_written_in (table_in d) x) i no_logical)
  turn-ok r f =
      answered-ok (slot_geometry (geometry_of (table_in b)) (get_or (first_at_start x (logicals (table_in b))) i no_logical)) (get_or (as_written_in (table_in b) x) i no_logical) r (turn-none d b x i h k s e g) f
      ∙ ap Ok (turn-same d b x i h k s e)

pub loop-i-init : goal.loop-i-init
loop-i-init c = record { put = leave-start c.args.b.now (as_written_in (table_in c.args.b.now) c.args.x); fit = tt }

pub addressed_slot-requires : goal.addressed_slot-requires
addressed_slot-requires c =
    let k : c.loop-i.i < (table_in c.args.b.now).count = omega (arith, c.loop-i-test.true, c.count-i-end.ensures) in
    (turn-held c.args.b.now c.loop-i.b c.args.x c.loop-i.i c.requires.0 k c.loop-i.invariant.fit c.loop-i.invariant.put, turn_in c.args.b.now c.loop-i.b c.args.x c.loop-i.i c.requires.0 k c.loop-i.invariant.fit c.loop-i.invariant.put)

pub unwrap-l-requires : goal.unwrap-l-requires
unwrap-l-requires c =
    let k : c.loop-i.i < (table_in c.args.b.now).count = omega (arith, c.loop-i-test.true, c.count-i-end.ensures) in
    rw (turn-ok c.args.b.now c.loop-i.b c.args.x c.loop-i.i c.requires.0 k c.loop-i.invariant.fit c.loop-i.invariant.put c.requires.1 c.addressed_slot.result c.addressed_slot.ensures) (search rules)

pub put_fit-requires : goal.put_fit-requires
put_fit-requires c =
    let k : c.loop-i.i < (table_in c.args.b.now).count = omega (arith, c.loop-i-test.true, c.count-i-end.ensures) in
    (c.loop-i.auto.b ∙ c.requires.0.long, omega (arith, k, c.requires.0.few))

pub loop-i-preserved : goal.loop-i-preserved
loop-i-preserved c =
    let k : c.loop-i.i < (table_in c.args.b.now).count = omega (arith, c.loop-i-test.true, c.count-i-end.ensures) in
    let e = ok-injective (sym c.unwrap-l.ensures ∙ turn-ok c.args.b.now c.loop-i.b c.args.x c.loop-i.i c.requires.0 k c.loop-i.invariant.fit c.loop-i.invariant.put c.requires.1 c.addressed_slot.result c.addressed_slot.ensures) in
    let w = turn-put c.args.b.now c.loop-i.b c.args.x c.loop-i.i c.requires.0 k c.loop-i.invariant.fit c.loop-i.invariant.put _ _ e c.put_fit.ensures.slot_fits c.put_fit.ensures.b_after in
    record { put = w.0; fit = w.1 }

pub returns : goal.returns
returns c =
    let both = leave-end c.args.b.now c.loop-i.b c.args.x c.loop-i.i c.requires.0 (omega (arith, c.loop-i-test.false, c.count-i-end.ensures)) c.loop-i.invariant.fit c.loop-i.invariant.put in
    record { b_after = both.0; slots_fit = both.1 }
