use native.Mathlib.Nat.{lt_trans, lt_of_le_of_lt}
use native.Mathlib.Omega.{arith}
use lib.Dec.{lit<}
use Rattle.record_chs.proofs.Small.{under, head-fits, sector-fits}
use borrow.Author.Rules.{rules}
use Rattle.record_chs.proofs.address_of.Goals as goal

pub overflow_mul-size : goal.overflow_mul-size
overflow_mul-size c = record { fits = lt_of_le_of_lt (under 255 255 (search rules) (search rules)) (lit< tt) }

pub overflow_cast-result-2 : goal.overflow_cast-result-2
overflow_cast-result-2 c = record { fits = lt_trans (head-fits _ _ _ c.requires.0) (search rules) }

pub overflow_add-result : goal.overflow_add-result
overflow_add-result c = omega (arith, sector-fits c.args.lba c.args.heads c.args.sectors c.requires.0)

pub overflow_cast-result-3 : goal.overflow_cast-result-3
overflow_cast-result-3 c = omega (arith, sector-fits c.args.lba c.args.heads c.args.sectors c.requires.0)
