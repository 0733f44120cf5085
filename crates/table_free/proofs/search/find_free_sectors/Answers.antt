use Rattle.std.proofs.Common.{arith, sym, ap, ◌∙◌, [], List, ℕ, ◌≤◌}
use Rattle.std.proofs.lemmas.Result.{err_from_is_err_and, IfOk-weaker}
use Rattle.base.specs.Said.{Said}
use Rattle.table_free.specs.declared.Runs.{Runs}
use Rattle.table_free.specs.Free.{runs_in, between, joined, most_runs}
use Rattle.table_free.proofs.Laws.{free-six, free-zero, free-outer, free-alone, free-both, first-area, listed-again, listed-none}
use Rattle.table_free.proofs.search.find_free_sectors.Goals as goal

pub returns-then-count-gt-LOGICALS-clause-said : goal.returns-then-count-gt-LOGICALS-clause-said
returns-then-count-gt-LOGICALS-clause-said c = (free-six c.args.t c.if-count-gt-LOGICALS.true, tt)

pub returns-then-align-eq0-clause-said : goal.returns-then-align-eq0-clause-said
returns-then-align-eq0-clause-said c = (free-zero c.args.t c.if-count-gt-LOGICALS.false c.if-align-eq0.true, tt)

pub returns-in_err-outer-clause-said : goal.returns-in_err-outer-clause-said
returns-in_err-outer-clause-said c =
    let p = err_from_is_err_and c.from_residual.result c.from_residual.ensures.1 in
    rw (p.1, p.2) (free-outer c.args.t c.if-count-gt-LOGICALS.false (omega arith) _ (ap (between c.args.t.align) (sym c.in_err-outer.ensures.said)), tt)

pub search_area-requires : goal.search_area-requires
search_area-requires c =
    let n = listed-none _ c.new.ensures in
    (omega arith, (listed-again [] _ c.new.ensures, (omega (arith, c.in_ok-outer.ensures.few), omega (arith, n, c.in_ok-outer.ensures.few))))

pub returns-in_err-runs-clause-said : goal.returns-in_err-runs-clause-said
returns-in_err-runs-clause-said c =
    let p = err_from_is_err_and c.from_residual-in_err-runs.result c.from_residual-in_err-runs.ensures.1 in
    let o = ap (between c.args.t.align) (sym c.in_ok-outer.ensures.said) ∙ sym (first-area _ _ c.new.ensures) in
    rw (p.1, p.2) (free-outer c.args.t c.if-count-gt-LOGICALS.false (omega arith) _ (o ∙ sym c.in_err-runs.ensures.said.0), tt)

pub returns-in_default-clause-said : goal.returns-in_default-clause-said
returns-in_default-clause-said c =
    let o = ap (between c.args.t.align) (sym c.in_ok-outer.ensures.said) ∙ sym (first-area _ _ c.new.ensures) in
    let n = sym c.get_extended_partition.ensures ∙ c.in_default.is in
    (free-alone c.args.t c.if-count-gt-LOGICALS.false (omega arith) _ (o ∙ sym c.in_ok-runs.ensures.said.0) n, c.in_ok-runs.ensures.said.1)

pub returns-in_default-clause-few : goal.returns-in_default-clause-few
returns-in_default-clause-few c =
    let n = listed-none _ c.new.ensures in
    omega (arith, n, c.in_ok-outer.ensures.few, c.in_ok-runs.ensures.few)

pub returns-in_err-inner-clause-said : goal.returns-in_err-inner-clause-said
returns-in_err-inner-clause-said c =
    let p = err_from_is_err_and c.from_residual-in_err-inner.result c.from_residual-in_err-inner.ensures.1 in
    let o = ap (between c.args.t.align) (sym c.in_ok-outer.ensures.said) ∙ sym (first-area _ _ c.new.ensures) in
    let n = sym c.get_extended_partition.ensures ∙ c.in-Some.is in
    let b = free-both c.args.t c.if-count-gt-LOGICALS.false (omega arith) _ (o ∙ sym c.in_ok-runs.ensures.said.0) _ n in
    rw (p.1, p.2) (ap (λ (v : Said (List ℕ)). joined (runs_in c.in_ok-runs.runs) (between c.args.t.align v)) c.in_err-inner.ensures.said ∙ b, tt)

pub search_area-requires-2 : goal.search_area-requires-2
search_area-requires-2 c =
    let n = listed-none _ c.new.ensures in
    (omega arith, (c.in_ok-runs.ensures.said.1, (c.in_ok-inner.ensures.few, omega (arith, n, c.in_ok-outer.ensures.few, c.in_ok-runs.ensures.few, c.in_ok-inner.ensures.few))))

pub returns-clause-said : goal.returns-clause-said
returns-clause-said c =
    let o = ap (between c.args.t.align) (sym c.in_ok-outer.ensures.said) ∙ sym (first-area _ _ c.new.ensures) in
    let n = sym c.get_extended_partition.ensures ∙ c.in-Some.is in
    let b = free-both c.args.t c.if-count-gt-LOGICALS.false (omega arith) _ (o ∙ sym c.in_ok-runs.ensures.said.0) _ n in
    let s = c.search_area-2.ensures.said in
    (s.0 ∙ ap (λ (v : Said (List ℕ)). joined (runs_in c.in_ok-runs.runs) (between c.args.t.align v)) c.in_ok-inner.ensures.said ∙ b, s.1)

pub returns-clause-few : goal.returns-clause-few
returns-clause-few c =
    let n = listed-none _ c.new.ensures in
    IfOk-weaker c.search_area-2.result _ (λ (r : Runs). r.count ≤ most_runs) (λ r h. omega (arith, n, h, c.in_ok-outer.ensures.few, c.in_ok-runs.ensures.few, c.in_ok-inner.ensures.few)) c.search_area-2.ensures.few
