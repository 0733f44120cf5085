use native.Mathlib.Omega.{arith}
use Rattle.extract.proofs.Good.{good-few, good-long}
use Rattle.extract.proofs.lba_at.Goals as goal

pub overflow_mul-i : goal.overflow_mul-i
overflow_mul-i c =
    let f = good-few _ c.requires.n_value.1 in
    let l = good-long _ c.requires.n_value.1 in
    omega (arith, c.requires.n_value.0, c.requires.i_lt_n)

pub overflow_add-i : goal.overflow_add-i
overflow_add-i c =
    let f = good-few _ c.requires.n_value.1 in
    let l = good-long _ c.requires.n_value.1 in
    omega (arith, c.requires.n_value.0, c.requires.i_lt_n)

pub word_at-requires : goal.word_at-requires
word_at-requires c =
    let f = good-few _ c.requires.n_value.1 in
    let l = good-long _ c.requires.n_value.1 in
    omega (arith, c.requires.n_value.0, c.requires.i_lt_n)
