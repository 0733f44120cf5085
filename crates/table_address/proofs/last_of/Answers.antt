use Rattle.table_address.proofs.Steps.{is_zero, not-zero}
use borrow.Author.Tests.{lt-ltb, le-ltb}
use Rattle.table_address.proofs.last_of.Goals as goal

pub returns-then-end-ge4294967296 : goal.returns-then-end-ge4294967296
returns-then-end-ge4294967296 c = rw (le-ltb _ _ c.if-end-ge4294967296.true)

pub returns-then-end-eq0 : goal.returns-then-end-eq0
returns-then-end-eq0 c = rw (lt-ltb _ _ c.if-end-ge4294967296.false, is_zero _ c.if-end-eq0.true)

pub returns : goal.returns
returns c = rw (lt-ltb _ _ c.if-end-ge4294967296.false, not-zero _ c.if-end-eq0.false) c.from_lba_exact.ensures
