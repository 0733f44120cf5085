use Rattle.std.proofs.lemmas.Result.{err_from_is_err_and}
use Rattle.block_lookup.proofs.after_hit.Laws.{hit, passed, refused, at-end, parts-long, part-is}
use Rattle.table_lookup.specs.Hits.{among_logicals}
use Rattle.table_lookup.specs.Find.{number_of}
use mathlib.Core.Path.{refl, sym, ap, ◌∙◌}
use native.Mathlib.Omega.{arith}
use borrow.Author.Rules.{rules}
use Rattle.base.specs.Said.{gives}
use Rattle.block_lookup.proofs.after_hit.among_logicals.Goals as goal

pub loop-i-init : goal.loop-i-init
unfolding among_logicals
loop-i-init c = (search rules, refl)

pub returns-then-branch : goal.returns-then-branch
returns-then-branch c =
    let w = part-is c.args.b.now _ c.requires.few c.count-n.ensures c.loop-i.i _ c.loop-i-test.true c.logical-e.ensures in
    let x = sym c.in_ok-is_within.ensures ∙ ap gives c.if-branch.true in
    sym (ap number_of (c.loop-i.invariant.1 ∙ hit c.args.sector 5 c.loop-i.i _ _ w x))

pub returns-in_err-is_within : goal.returns-in_err-is_within
returns-in_err-is_within c =
    let p = err_from_is_err_and c.from_residual.result c.from_residual.ensures.1 in
    let w = part-is c.args.b.now _ c.requires.few c.count-n.ensures c.loop-i.i _ c.loop-i-test.true c.logical-e.ensures in
    let x = sym c.in_err-is_within.ensures in
    rw (p.1, p.2) (sym (ap number_of (c.loop-i.invariant.1 ∙ refused c.args.sector 5 c.loop-i.i _ _ w _ x)))

pub loop-i-preserved : goal.loop-i-preserved
loop-i-preserved c =
    let w = part-is c.args.b.now _ c.requires.few c.count-n.ensures c.loop-i.i _ c.loop-i-test.true c.logical-e.ensures in
    let x = sym c.in_ok-is_within.ensures ∙ ap gives c.if-branch.false in
    (search rules, c.loop-i.invariant.1 ∙ passed c.args.sector 5 c.loop-i.i _ _ w x)

pub returns : goal.returns
returns c =
    let m = parts-long c.args.b.now _ c.requires.few c.count-n.ensures in
    sym (ap number_of (c.loop-i.invariant.1 ∙ at-end c.args.sector 5 c.loop-i.i _ (omega (arith, m, c.loop-i-test.false))))
