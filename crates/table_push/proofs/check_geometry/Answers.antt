use borrow.Author.Tests.{lt-leb, le-leb}
use Rattle.table_push.proofs.check_geometry.Goals as goal

pub returns-then-t-gt-LOGICALS : goal.returns-then-t-gt-LOGICALS
returns-then-t-gt-LOGICALS c = rw (lt-leb _ _ c.if-t-gt-LOGICALS.true)

pub returns : goal.returns
returns c = rw (le-leb _ _ c.if-t-gt-LOGICALS.false, c.is_complete.ensures)
