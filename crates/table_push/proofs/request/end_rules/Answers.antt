use Rattle.table_address.proofs.Steps.{is_zero, not-zero}
use Rattle.table_push.specs.Asked.{end_checks}
use borrow.Author.Tests.{lt-ltb, le-ltb, lt-leb, le-leb}
use Rattle.table_push.proofs.request.end_rules.Goals as goal

pub returns-then-n-eq0 : goal.returns-then-n-eq0
unfolding end_checks
returns-then-n-eq0 c = rw (is_zero _ c.if-n-eq0.true)

pub returns-then-end-ge4294967296 : goal.returns-then-end-ge4294967296
unfolding end_checks
returns-then-end-ge4294967296 c = rw (← c.requires.0, ← c.requires.1, not-zero _ c.if-n-eq0.false, le-ltb _ _ c.if-end-ge4294967296.true)

pub returns-then-area-end : goal.returns-then-area-end
unfolding end_checks
returns-then-area-end c = rw (← c.requires.0, ← c.requires.1, not-zero _ c.if-n-eq0.false, lt-ltb _ _ c.if-end-ge4294967296.false, lt-leb _ _ c.if-area-end.true)

pub returns : goal.returns
unfolding end_checks
returns c = rw (← c.requires.0, ← c.requires.1, not-zero _ c.if-n-eq0.false, lt-ltb _ _ c.if-end-ge4294967296.false, le-leb _ _ c.if-area-end.false)
