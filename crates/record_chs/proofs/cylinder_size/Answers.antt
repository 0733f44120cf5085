use mathlib.Core.Path.{refl}
use native.Mathlib.Nat.{lt_of_le_of_lt}
use lib.Dec.{lit<}
use borrow.Author.Rules.{rules}
use Rattle.record_chs.proofs.Small.{under}
use Rattle.record_chs.proofs.cylinder_size.Goals as goal

pub overflow_mul-result : goal.overflow_mul-result
overflow_mul-result c = record { fits = lt_of_le_of_lt (under 255 255 (search rules) (search rules)) (lit< tt) }

pub returns : goal.returns
returns c = (refl, under 255 255 (search rules) (search rules))
