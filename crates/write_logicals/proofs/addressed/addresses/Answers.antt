use Rattle.std.specs.Prelude.{Err}
use Rattle.base.specs.Said.{answered, refusal}
use borrow.Author.Rules.{rules}
use lib.ListN.{length, get_or}
use Prim.Native.Nat.{◌<◌}
use Rattle.base.proofs.Checks.{answer-refuses, answer-gives}
use mathlib.Core.Path.{◌≡◌, sym, ap, ◌∙◌}
use native.Mathlib.Omega.{arith}
use Rattle.table.specs.Table.{logicals, no_logical}
use Rattle.block.specs.Block.{table_in}
use Rattle.table_push.specs.Push.{geometry_of}
use Rattle.write_rules.specs.AsWritten.{slot_geometry, first_at_start, as_written_in}
use Rattle.write_rules.proofs.as_written.Laws.{length-first, geometry-fails, geometry-holds, geometry-end, held-long}
use Rattle.write_logicals.proofs.addressed.addresses.Goals as goal

pub returns-in_err-addressed_slot : goal.returns-in_err-addressed_slot
returns-in_err-addressed_slot c =
    let t = table_in c.args.b.now in
    let ls = first_at_start c.args.x (logicals t) in
    let h : c.loop-i.i < length ls = omega (arith, length-first c.args.x (logicals t), held-long c.args.b.now c.requires, c.loop-i-test.true, c.count-i-end.ensures) in
    let e : c.from_residual.result ≡ Err c.in_err-addressed_slot.field-0.0 = search rules in
    ap refusal e ∙ sym (c.loop-i.invariant ∙ geometry-fails (geometry_of t) ls c.loop-i.i h _ (answer-refuses (slot_geometry (geometry_of t) (get_or ls c.loop-i.i no_logical)) (get_or (as_written_in t c.args.x) c.loop-i.i no_logical) _ (sym c.addressed_slot.ensures ∙ ap answered c.in_err-addressed_slot.was)))

pub loop-i-preserved : goal.loop-i-preserved
loop-i-preserved c =
    let t = table_in c.args.b.now in
    let ls = first_at_start c.args.x (logicals t) in
    let h : c.loop-i.i < length ls = omega (arith, length-first c.args.x (logicals t), held-long c.args.b.now c.requires, c.loop-i-test.true, c.count-i-end.ensures) in
    c.loop-i.invariant ∙ geometry-holds (geometry_of t) ls c.loop-i.i h (answer-gives (slot_geometry (geometry_of t) (get_or ls c.loop-i.i no_logical)) (get_or (as_written_in t c.args.x) c.loop-i.i no_logical) _ (sym c.addressed_slot.ensures ∙ ap answered c.in_ok-addressed_slot.was)).0

pub returns : goal.returns
returns c =
    let t = table_in c.args.b.now in
    let ls = first_at_start c.args.x (logicals t) in
    let i : c.loop-i.i ≡ length ls = omega (arith, length-first c.args.x (logicals t), held-long c.args.b.now c.requires, c.loop-i.auto.i-end, c.loop-i-test.false, c.count-i-end.ensures) in
    sym (c.loop-i.invariant ∙ geometry-end (geometry_of t) ls c.loop-i.i i)
