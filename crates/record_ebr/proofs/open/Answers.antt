use Rattle.record_entry.specs.Entry.{flag_ok}
use mathlib.Core.Path.{sym, ap, ◌∙◌}
use Rattle.record_ebr.proofs.open.Goals as goal

pub returns-then-not-stands_at : goal.returns-then-not-stands_at
returns-then-not-stands_at c =
    let s = sym c.stands_at.ensures ∙ c.if-not-stands_at.true in
    simp s

pub returns-then-not-check : goal.returns-then-not-check
returns-then-not-check c =
    let s = sym c.stands_at.ensures ∙ c.if-not-stands_at.false in
    let f = ap flag_ok (sym c.read-first.ensures) ∙ sym c.check.ensures ∙ c.if-not-check.true in
    simp (s, f)

pub returns-then-not-check-2 : goal.returns-then-not-check-2
returns-then-not-check-2 c =
    let s = sym c.stands_at.ensures ∙ c.if-not-stands_at.false in
    let f = ap flag_ok (sym c.read-first.ensures) ∙ sym c.check.ensures ∙ c.if-not-check.false in
    let g = ap flag_ok (sym c.read-second.ensures) ∙ sym c.check-2.ensures ∙ c.if-not-check-2.true in
    rw (s, f, g)

pub returns : goal.returns
returns c =
    let s = sym c.stands_at.ensures ∙ c.if-not-stands_at.false in
    let f = ap flag_ok (sym c.read-first.ensures) ∙ sym c.check.ensures ∙ c.if-not-check.false in
    let g = ap flag_ok (sym c.read-second.ensures) ∙ sym c.check-2.ensures ∙ c.if-not-check-2.false in
    rw (c.read-first.ensures, c.read-second.ensures) (rw (s, f, g))
