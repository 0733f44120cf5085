use Prim.Native.Nat.{◌≤◌}
use native.Mathlib.Nat.{lt_of_le_of_lt}
use lib.Dec.{lit<}
use native.Mathlib.Omega.{arith}
use Rattle.record_chs.proofs.Small.{under}
use borrow.Author.Rules.{rules}
use Rattle.record_chs.proofs.behind_lba.Goals as goal

pub overflow_mul-result : goal.overflow_mul-result
overflow_mul-result c = record { fits = lt_of_le_of_lt (under 65535 65025 (search rules) c.cylinder_size-size.ensures.1) (lit< tt) }

pub overflow_add-result : goal.overflow_add-result
overflow_add-result c =
    let p : c.args.c.cylinder ≤ 65535 = search rules in
    omega (arith, under 65535 65025 p c.cylinder_size-size.ensures.1, c.cylinder_size-track.ensures.1)

pub overflow_add-result-2 : goal.overflow_add-result-2
overflow_add-result-2 c =
    let p : c.args.c.cylinder ≤ 65535 = search rules in
    omega (arith, under 65535 65025 p c.cylinder_size-size.ensures.1, c.cylinder_size-track.ensures.1)

pub returns : goal.returns
returns c = rw (c.cylinder_size-size.ensures.0, c.cylinder_size-track.ensures.0)
