use Rattle.std.proofs.Common.{arith, ℕ, sym, ap, ◌∙◌, ◌+◌, List}
use Rattle.std.proofs.lemmas.Result.{err_from_is_err_and}
use Rattle.base.specs.Said.{Said, gives}
use Rattle.table_free.specs.Free.{logical_zones, points_in, closed}
use Rattle.table_free.proofs.Laws.{logical-on, logical-end, positions-steps}
use Rattle.table_free.proofs.search.extended_points.Goals as goal

pub returns-in_err-add-clause-said : goal.returns-in_err-add-clause-said
returns-in_err-add-clause-said c =
    let p = err_from_is_err_and c.from_residual.result c.from_residual.ensures.1 in
    let on = logical-on c.args.logicals.now c.loop-l.l-index c.loop-l-test.true (gives (points_in c.loop-l.p)) _ c.in_err-add.ensures.said in
    rw (p.1, p.2) (sym (ap (λ (v : Said (List ℕ)). closed v (c.args.e.starting_lba + c.args.e.sectors)) (c.loop-l.invariant.said ∙ on)) ∙ positions-steps c.args.e.starting_lba (c.args.e.starting_lba + c.args.e.sectors) (logical_zones c.args.logicals.now))

pub loop-l-preserved : goal.loop-l-preserved
loop-l-preserved c =
    record {
      few = omega (arith, c.loop-l.invariant.few, c.in_ok-add.ensures.few);
      said = c.loop-l.invariant.said ∙ logical-on c.args.logicals.now c.loop-l.l-index c.loop-l-test.true (gives (points_in c.loop-l.p)) _ c.in_ok-add.ensures.said;
    }

pub returns-clause-said : goal.returns-clause-said
returns-clause-said c =
    let e = c.loop-l.invariant.said ∙ logical-end c.args.logicals.now c.loop-l.l-index c.loop-l-test.false (gives (points_in c.loop-l.p)) in
    c.to.ensures.said ∙ ap (closed (gives (points_in c.loop-l.p))) (omega arith) ∙ ap (λ (v : Said (List ℕ)). closed v (c.args.e.starting_lba + c.args.e.sectors)) (sym e)
    ∙ positions-steps c.args.e.starting_lba (c.args.e.starting_lba + c.args.e.sectors) (logical_zones c.args.logicals.now)
