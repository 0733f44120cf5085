use Rattle.std.proofs.Common.{length, rules, arith, ℕ, sym, ap, ◌∙◌, ◌≡◌, List}
use Rattle.std.proofs.lemmas.Result.{err_from_is_err_and}
use Rattle.base.specs.Said.{Said, gives}
use Rattle.table_free.specs.Free.{primary_zones, points_in, closed}
use Rattle.table_free.proofs.Laws.{primary-on, primary-end, positions-steps}
use Rattle.table_free.proofs.search.primary_points.Goals as goal

pub returns-in_err-add-clause-said : goal.returns-in_err-add-clause-said
returns-in_err-add-clause-said c =
    let n : length c.args.entries ≡ 4 = search rules in
    let p = err_from_is_err_and c.from_residual.result c.from_residual.ensures.1 in
    let on = primary-on c.args.entries c.loop-e.e-index (omega (arith, n, c.loop-e-test.true)) (gives (points_in c.loop-e.p)) _ c.in_err-add.ensures.said in
    rw (p.1, p.2) (sym (ap (λ (v : Said (List ℕ)). closed v c.args.disk) (c.loop-e.invariant.said ∙ on)) ∙ positions-steps 0 c.args.disk (primary_zones c.args.entries))

pub loop-e-preserved : goal.loop-e-preserved
loop-e-preserved c =
    let n : length c.args.entries ≡ 4 = search rules in
    record {
      few = omega (arith, c.loop-e.invariant.few, c.in_ok-add.ensures.few);
      said = c.loop-e.invariant.said ∙ primary-on c.args.entries c.loop-e.e-index (omega (arith, n, c.loop-e-test.true)) (gives (points_in c.loop-e.p)) _ c.in_ok-add.ensures.said;
    }

pub returns-clause-said : goal.returns-clause-said
returns-clause-said c =
    let n : length c.args.entries ≡ 4 = search rules in
    let e = c.loop-e.invariant.said ∙ primary-end c.args.entries c.loop-e.e-index (omega (arith, n, c.loop-e-test.false)) (gives (points_in c.loop-e.p)) in
    let d : c.wide.result ≡ c.args.disk = omega arith in
    c.to.ensures.said ∙ ap (closed (gives (points_in c.loop-e.p))) d ∙ ap (λ (v : Said (List ℕ)). closed v c.args.disk) (sym e)
    ∙ positions-steps 0 c.args.disk (primary_zones c.args.entries)
