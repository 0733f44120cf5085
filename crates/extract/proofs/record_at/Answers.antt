use native.Mathlib.Omega.{arith}
use Rattle.extract.proofs.Good.{good-few, good-long}
use Rattle.extract.proofs.Halves.{part-record}
use Rattle.extract.proofs.record_at.Goals as goal

pub overflow_mul-at : goal.overflow_mul-at
overflow_mul-at c =
    let f = good-few _ c.requires.n_value.1 in
    let l = good-long _ c.requires.n_value.1 in
    omega (arith, c.requires.n_value.0, c.requires.i_lt_n)

pub overflow_add-at : goal.overflow_add-at
overflow_add-at c =
    let f = good-few _ c.requires.n_value.1 in
    let l = good-long _ c.requires.n_value.1 in
    omega (arith, c.requires.n_value.0, c.requires.i_lt_n)

pub overflow_mul-at-2 : goal.overflow_mul-at-2
overflow_mul-at-2 c =
    let f = good-few _ c.requires.n_value.1 in
    let l = good-long _ c.requires.n_value.1 in
    omega (arith, c.requires.n_value.0, c.requires.i_lt_n)

pub overflow_add-at-2 : goal.overflow_add-at-2
overflow_add-at-2 c =
    let f = good-few _ c.requires.n_value.1 in
    let l = good-long _ c.requires.n_value.1 in
    omega (arith, c.requires.n_value.0, c.requires.i_lt_n)

pub overflow_add-result : goal.overflow_add-result
overflow_add-result c =
    let f = good-few _ c.requires.n_value.1 in
    let l = good-long _ c.requires.n_value.1 in
    omega (arith, c.requires.n_value.0, c.requires.i_lt_n)

pub slice_bounds-result-end : goal.slice_bounds-result-end
slice_bounds-result-end c =
    let f = good-few _ c.requires.n_value.1 in
    let l = good-long _ c.requires.n_value.1 in
    omega (arith, c.requires.n_value.0, c.requires.i_lt_n)

pub returns : goal.returns
returns c = part-record c.args.x.now c.args.n c.args.i c.requires.n_value.0
