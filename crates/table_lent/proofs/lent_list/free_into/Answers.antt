use Rattle.std.proofs.Common.{◌≡◌, rules, arith, refl, length}
use Rattle.std.proofs.lemmas.Result.{err_from_is_err_and}
use lib.Seq.{length-take-le}
use borrow.Author.Tests.{lt-leb, le-leb}
use Rattle.table_free.specs.Free.{runs_in, most_runs}
use Rattle.table_lent.specs.Runs.{free_for, first}
use Rattle.table_lent.proofs.lent_list.free_into.Goals as goal

pub returns-in_err-found : goal.returns-in_err-found
unfolding free_for first
returns-in_err-found c =
    let p = err_from_is_err_and c.from_residual.result c.from_residual.ensures.1 in
    rw (p.1, p.2, ← c.in_err-found.ensures.said.0) (refl, refl)

pub returns-then-runs-lt-RUNS : goal.returns-then-runs-lt-RUNS
unfolding free_for first
returns-then-runs-lt-RUNS c = rw (← c.in_ok-found.ensures.said.0, lt-leb _ _ c.if-runs-lt-RUNS.true) (refl, refl)

pub returns : goal.returns
unfolding free_for first
returns c =
    let x = c.in_ok-found.found in
    let n : length x.at ≡ most_runs = search rules in
    let l : length (runs_in x) ≡ x.count = length-take-le x.count x.at (omega (arith, c.in_ok-found.ensures.few)) in
    rw (← c.in_ok-found.ensures.said.0, le-leb _ _ c.if-runs-lt-RUNS.false, l, c.copy_from_slice.ensures.after) (refl, refl)
