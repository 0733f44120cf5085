use Rattle.std.proofs.lemmas.Result.{err_from_is_err_and}
use Rattle.base.specs.Said.{gives}
use Rattle.block_lookup.proofs.after_hit.Laws.{passed, refused, at-end}
use Rattle.block_lookup.proofs.at_sector.Laws.{leads, hit-leads, found-small}
use Rattle.block.specs.Block.{table_in}
use Rattle.record_mbr.specs.Mbr.{primaries}
use mathlib.Core.Path.{sym, ap, ◌∙◌}
use native.Mathlib.Omega.{arith}
use borrow.Author.Rules.{rules}
use Rattle.block_lookup.proofs.at_sector.find.Goals as goal

pub overflow_cast-result : goal.overflow_cast-result
overflow_cast-result c =
    let x = sym c.in_ok-is_within.ensures ∙ ap gives c.if-branch.true in
    let l = hit-leads (table_in c.args.b.now) c.args.sector c.loop-i.i _ c.requires.few c.loop-i.invariant.1 (c.loop-i-test.true, c.primary-e.ensures) x in
    let n = found-small (table_in c.args.b.now) c.args.sector c.in-Some.n (l ∙ sym c.in_ok-n.ensures ∙ ap gives c.in-Some.is) in
    omega (arith, n)

pub returns-then-branch : goal.returns-then-branch
returns-then-branch c =
    let x = sym c.in_ok-is_within.ensures ∙ ap gives c.if-branch.true in
    let l = hit-leads (table_in c.args.b.now) c.args.sector c.loop-i.i _ c.requires.few c.loop-i.invariant.1 (c.loop-i-test.true, c.primary-e.ensures) x in
    sym (ap gives c.in-Some.is) ∙ c.in_ok-n.ensures ∙ sym l

pub returns-in_default : goal.returns-in_default
returns-in_default c =
    let x = sym c.in_ok-is_within.ensures ∙ ap gives c.if-branch.true in
    let l = hit-leads (table_in c.args.b.now) c.args.sector c.loop-i.i _ c.requires.few c.loop-i.invariant.1 (c.loop-i-test.true, c.primary-e.ensures) x in
    sym (ap gives c.in_default.is) ∙ c.in_ok-n.ensures ∙ sym l

pub returns-in_err-n : goal.returns-in_err-n
returns-in_err-n c =
    let p = err_from_is_err_and c.from_residual-in_err-n.result c.from_residual-in_err-n.ensures.1 in
    let x = sym c.in_ok-is_within.ensures ∙ ap gives c.if-branch.true in
    let l = hit-leads (table_in c.args.b.now) c.args.sector c.loop-i.i _ c.requires.few c.loop-i.invariant.1 (c.loop-i-test.true, c.primary-e.ensures) x in
    rw (p.1, p.2) (c.in_err-n.ensures ∙ sym l)

pub returns-in_err-is_within : goal.returns-in_err-is_within
returns-in_err-is_within c =
    let p = err_from_is_err_and c.from_residual.result c.from_residual.ensures.1 in
    let x = sym c.in_err-is_within.ensures in
    rw (p.1, p.2) (sym (leads _ c.args.sector _ c.requires.few (c.loop-i.invariant.1 ∙ refused c.args.sector 1 c.loop-i.i (primaries (table_in c.args.b.now).header) _ (c.loop-i-test.true, c.primary-e.ensures) _ x)))

pub loop-i-preserved : goal.loop-i-preserved
loop-i-preserved c =
    let x = sym c.in_ok-is_within.ensures ∙ ap gives c.if-branch.false in
    (search rules, c.loop-i.invariant.1 ∙ passed c.args.sector 1 c.loop-i.i (primaries (table_in c.args.b.now).header) _ (c.loop-i-test.true, c.primary-e.ensures) x)

pub returns : goal.returns
returns c =
    sym (leads _ c.args.sector _ c.requires.few (c.loop-i.invariant.1 ∙ at-end c.args.sector 1 c.loop-i.i _ c.loop-i-test.false))
