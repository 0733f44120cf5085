use Rattle.std.proofs.Common.{length-append, ◌<◌, rules, arith, sym, ap, ◌∙◌, length}
use Rattle.std.proofs.lemmas.Result.{err_from_is_err_and}
use Rattle.std.specs.Prelude.{Option, Ok}
use Rattle.std.specs.Slice.Iter.{chunks_exact_rest}
use Rattle.table_free.specs.declared.Run.{Run}
use Rattle.table_free.specs.Free.{runs_in, gap_said, joined, runs_among}
use Rattle.table_free.proofs.Laws.{pair-none, pair-some, pair-refused, pair_end, listed-again, listed_more, runs-listed}
use Rattle.table_free.proofs.gaps.collect.Goals as goal

pub returns-in_err-r-clause-said : goal.returns-in_err-r-clause-said
returns-in_err-r-clause-said c =
    let p = err_from_is_err_and c.from_residual.result c.from_residual.ensures.1 in
    let s = c.in-Some.ensures.steps in
    let f = pair-refused c.args.align c.in-Some.pair.now _ _ s.1.0 (s.1.1 ∙ c.loop-pair.invariant.two) (runs_in c.loop-pair.runs) _ c.in_err-r.ensures in
    rw (p.1, p.2) (sym (c.loop-pair.invariant.found ∙ f), tt)

pub loop-pair-preserved-in_default : goal.loop-pair-preserved-in_default
loop-pair-preserved-in_default c =
    let s = c.in-Some.ensures.steps in
    let g = sym (ap (λ (o : Option Run). gap_said (Ok o)) c.in_default.is) ∙ c.in_ok-r.ensures in
    record {
      two = s.0 ∙ c.loop-pair.invariant.two;
      listed = c.loop-pair.invariant.listed;
      few = search rules;
      found = c.loop-pair.invariant.found ∙ pair-none c.args.align c.in-Some.pair.now _ _ s.1.0 (s.1.1 ∙ c.loop-pair.invariant.two) (runs_in c.loop-pair.runs) g;
    }

pub loop-pair-preserved : goal.loop-pair-preserved
loop-pair-preserved c =
    let s = c.in-Some.ensures.steps in
    let g = sym (ap (λ (o : Option Run). gap_said (Ok o)) c.in-Some-2.is) ∙ c.in_ok-r.ensures in
    let w = listed_more c.loop-pair.runs c.in-Some-2.r c.loop-pair.invariant.listed (search rules) in
    let n = ap length s.1.0 ∙ length-append c.in-Some.pair.now (chunks_exact_rest c.next.new.self) in
    record {
      two = s.0 ∙ c.loop-pair.invariant.two;
      listed = listed-again _ _ w;
      few = omega (arith, n, s.1.1, c.loop-pair.invariant.two, c.loop-pair.invariant.few);
      found = c.loop-pair.invariant.found
          ∙ pair-some c.args.align c.in-Some.pair.now _ _ s.1.0 (s.1.1 ∙ c.loop-pair.invariant.two) (runs_in c.loop-pair.runs) c.in-Some-2.r g
          ∙ ap (λ rs. joined rs (runs_among c.args.align (chunks_exact_rest c.next.new.self))) (sym (ap runs_in w ∙ runs-listed _));
    }

pub returns-clause-said : goal.returns-clause-said
returns-clause-said c =
    let s = c.in-None.ensures.steps.1 in
    let h : length (chunks_exact_rest c.loop-pair.pair-iterator) < 2 = omega (arith, s.0, c.loop-pair.invariant.two) in
    (sym (c.loop-pair.invariant.found ∙ pair_end c.args.align _ (runs_in c.loop-pair.runs) h), c.loop-pair.invariant.listed)
