use Rattle.table_push.specs.Asked.{place_checks}
use borrow.Author.Tests.{lt-ltb, le-ltb, lt-leb, le-leb}
use Rattle.table_push.proofs.request.place_rules.Goals as goal

pub returns-then-double-ge4294967296 : goal.returns-then-double-ge4294967296
unfolding place_checks
returns-then-double-ge4294967296 c = rw (le-ltb _ _ c.if-double-ge4294967296.true)

pub returns-then-p-double : goal.returns-then-p-double
unfolding place_checks
returns-then-p-double c = rw (← c.requires.1, lt-ltb _ _ c.if-double-ge4294967296.false, lt-leb _ _ c.if-p-double.true)

pub returns-then-p-q-ge4294967296 : goal.returns-then-p-q-ge4294967296
unfolding place_checks
returns-then-p-q-ge4294967296 c = rw (← c.requires.0, ← c.requires.1, lt-ltb _ _ c.if-double-ge4294967296.false, le-leb _ _ c.if-p-double.false, le-ltb _ _ c.if-p-q-ge4294967296.true)

pub returns-then-p-e : goal.returns-then-p-e
unfolding place_checks
returns-then-p-e c = rw (← c.requires.0, ← c.requires.1, lt-ltb _ _ c.if-double-ge4294967296.false, le-leb _ _ c.if-p-double.false, lt-ltb _ _ c.if-p-q-ge4294967296.false, lt-leb _ _ c.if-p-e.true)

pub returns-then-end-ge4294967296 : goal.returns-then-end-ge4294967296
unfolding place_checks
returns-then-end-ge4294967296 c = rw (← c.requires.0, ← c.requires.1, lt-ltb _ _ c.if-double-ge4294967296.false, le-leb _ _ c.if-p-double.false, lt-ltb _ _ c.if-p-q-ge4294967296.false, le-leb _ _ c.if-p-e.false, le-ltb _ _ c.if-end-ge4294967296.true)

pub returns-then-end-double : goal.returns-then-end-double
unfolding place_checks
returns-then-end-double c = rw (← c.requires.0, ← c.requires.1, lt-ltb _ _ c.if-double-ge4294967296.false, le-leb _ _ c.if-p-double.false, lt-ltb _ _ c.if-p-q-ge4294967296.false, le-leb _ _ c.if-p-e.false, lt-ltb _ _ c.if-end-ge4294967296.false, lt-leb _ _ c.if-end-double.true)

pub returns-then-end-double-2 : goal.returns-then-end-double-2
unfolding place_checks
returns-then-end-double-2 c = rw (← c.requires.0, ← c.requires.1, lt-ltb _ _ c.if-double-ge4294967296.false, le-leb _ _ c.if-p-double.false, lt-ltb _ _ c.if-p-q-ge4294967296.false, le-leb _ _ c.if-p-e.false, lt-ltb _ _ c.if-end-ge4294967296.false, le-leb _ _ c.if-end-double.false, lt-leb _ _ c.if-end-double-2.true)

pub returns : goal.returns
unfolding place_checks
returns c = rw (← c.requires.0, ← c.requires.1, lt-ltb _ _ c.if-double-ge4294967296.false, le-leb _ _ c.if-p-double.false, lt-ltb _ _ c.if-p-q-ge4294967296.false, le-leb _ _ c.if-p-e.false, lt-ltb _ _ c.if-end-ge4294967296.false, le-leb _ _ c.if-end-double.false, le-leb _ _ c.if-end-double-2.false)
