use Rattle.std.specs.Prelude.{Err}
use Rattle.base.specs.Said.{refusal}
use lib.ListN.{length}
use Prim.Native.Nat.{◌<◌}
use mathlib.Core.Path.{◌≡◌, sym, ap, ◌∙◌}
use native.Mathlib.Omega.{arith}
use Rattle.block.specs.Block.{table_in}
use Rattle.write_rules.specs.AsWritten.{as_written_in}
use Rattle.write_rules.proofs.as_written.Laws.{rows_none, rows-fails, rows-holds, rows_end, held-long, settled-long}
use borrow.Author.Rules.{rules}
use Rattle.write_logicals.proofs.rows.Goals as goal

pub returns-then-n-eq0 : goal.returns-then-n-eq0
returns-then-n-eq0 c =
    let long : length (as_written_in (table_in c.args.b.now) c.args.x) ≡ (table_in c.args.b.now).count =
    settled-long (table_in c.args.b.now) c.args.x (held-long c.args.b.now c.requires.0) in
    sym (rows_none c.args.d (as_written_in (table_in c.args.b.now) c.args.x) (omega (arith, long, c.count-n.ensures, c.if-n-eq0.true)))

pub returns-in_err-row : goal.returns-in_err-row
returns-in_err-row c =
    let long : length (as_written_in (table_in c.args.b.now) c.args.x) ≡ (table_in c.args.b.now).count =
    settled-long (table_in c.args.b.now) c.args.x (held-long c.args.b.now c.requires.0) in
    let ls = as_written_in (table_in c.args.b.now) c.args.x in
    let h : c.loop-i.i < length ls = omega (arith, long, c.count-n.ensures, c.loop-i-test.true) in
    let e : c.from_residual.result ≡ Err c.in_err-row.field-0.0 = search rules in
    ap refusal e ∙ sym (c.loop-i.invariant.1 ∙ rows-fails c.args.d ls c.loop-i.l _ c.loop-i.i h (sym c.written_slot-m.ensures) _ _ c.has_link.ensures c.row.ensures _ (ap refusal c.in_err-row.was))

pub loop-i-preserved : goal.loop-i-preserved
loop-i-preserved c =
    let long : length (as_written_in (table_in c.args.b.now) c.args.x) ≡ (table_in c.args.b.now).count =
    settled-long (table_in c.args.b.now) c.args.x (held-long c.args.b.now c.requires.0) in
    let ls = as_written_in (table_in c.args.b.now) c.args.x in
    let h : c.loop-i.i < length ls = omega (arith, long, c.count-n.ensures, c.loop-i-test.true) in
    (search rules, c.loop-i.invariant.1 ∙ rows-holds c.args.d ls c.loop-i.l _ c.loop-i.i h (sym c.written_slot-m.ensures) _ _ c.has_link.ensures c.row.ensures (ap refusal c.in_ok-row.was))

pub returns : goal.returns
returns c =
    let long : length (as_written_in (table_in c.args.b.now) c.args.x) ≡ (table_in c.args.b.now).count =
    settled-long (table_in c.args.b.now) c.args.x (held-long c.args.b.now c.requires.0) in
    let ls = as_written_in (table_in c.args.b.now) c.args.x in
    let i : c.loop-i.i ≡ length ls = omega (arith, long, c.count-n.ensures, c.loop-i.invariant.0, c.loop-i-test.false) in
    c.row-2.ensures ∙ sym (c.loop-i.invariant.1 ∙ rows_end c.args.d ls c.loop-i.l c.loop-i.i i)
