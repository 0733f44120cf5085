use Rattle.table_address.proofs.Steps.{is_zero, not-zero}
use Rattle.table_push.specs.Asked.{round_checks}
use borrow.Author.Tests.{lt-ltb, le-ltb}
use Rattle.table_push.proofs.request.rounding.Goals as goal

pub returns-then-q-eq0 : goal.returns-then-q-eq0
unfolding round_checks
returns-then-q-eq0 c = rw (is_zero _ c.if-q-eq0.true)

pub returns-then-q-eq0-2 : goal.returns-then-q-eq0-2
unfolding round_checks
returns-then-q-eq0-2 c = rw (not-zero _ c.if-q-eq0.false, is_zero _ c.if-q-eq0-2.true)

pub returns-then-at-ge4294967296 : goal.returns-then-at-ge4294967296
unfolding round_checks
returns-then-at-ge4294967296 c = rw (not-zero _ c.if-q-eq0.false, not-zero _ c.if-q-eq0-2.false, ← c.round_up-at.ensures, le-ltb _ _ c.if-at-ge4294967296.true)

pub returns-then-q-eq0-3 : goal.returns-then-q-eq0-3
unfolding round_checks
returns-then-q-eq0-3 c = rw (not-zero _ c.if-q-eq0.false, not-zero _ c.if-q-eq0-2.false, ← c.round_up-at.ensures, lt-ltb _ _ c.if-at-ge4294967296.false, is_zero _ c.if-q-eq0-3.true)

pub returns-then-size-ge4294967296 : goal.returns-then-size-ge4294967296
unfolding round_checks
returns-then-size-ge4294967296 c = rw (not-zero _ c.if-q-eq0.false, not-zero _ c.if-q-eq0-2.false, ← c.round_up-at.ensures, lt-ltb _ _ c.if-at-ge4294967296.false, not-zero _ c.if-q-eq0-3.false, ← c.round_up-size.ensures, le-ltb _ _ c.if-size-ge4294967296.true)

pub returns : goal.returns
unfolding round_checks
returns c = rw (not-zero _ c.if-q-eq0.false, not-zero _ c.if-q-eq0-2.false, ← c.round_up-at.ensures, lt-ltb _ _ c.if-at-ge4294967296.false, not-zero _ c.if-q-eq0-3.false, ← c.round_up-size.ensures, lt-ltb _ _ c.if-size-ge4294967296.false)
