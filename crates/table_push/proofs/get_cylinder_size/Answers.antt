use Rattle.record_chs.proofs.Small.{under}
use native.Mathlib.Omega.{arith}
use lib.Dec.{lit<}
use native.Mathlib.Nat.{lt_of_le_of_lt}
use borrow.Author.Tests.{lt-leb, le-leb}
use Rattle.table_push.proofs.get_cylinder_size.Goals as goal

pub returns-then-t-gt-LOGICALS : goal.returns-then-t-gt-LOGICALS
returns-then-t-gt-LOGICALS c = rw (lt-leb _ _ c.if-t-gt-LOGICALS.true)

pub overflow_mul-result : goal.overflow_mul-result
overflow_mul-result c = record { fits = lt_of_le_of_lt (under 255 255 (omega arith) (omega arith)) (lit< tt) }

pub returns : goal.returns
returns c = rw (le-leb _ _ c.if-t-gt-LOGICALS.false, c.wide.ensures.0, c.wide-2.ensures.0)
