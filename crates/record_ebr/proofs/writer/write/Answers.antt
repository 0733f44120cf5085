use borrow.Author.Tests.{lt-leb, le-leb}
use mathlib.Core.Path.{sym, ◌∙◌}
use Rattle.record_ebr.proofs.writer.write.Goals as goal

pub returns-then-not-check : goal.returns-then-not-check
returns-then-not-check c =
    let f = sym c.check.ensures ∙ c.if-not-check.true in
    record { result_value = rw f; d_after = rw f }

pub returns-then-not-check-2 : goal.returns-then-not-check-2
returns-then-not-check-2 c =
    let f = sym c.check.ensures ∙ c.if-not-check.false in
    let g = sym c.check-2.ensures ∙ c.if-not-check-2.true in
    record { result_value = rw (f, g); d_after = rw (f, g) }

pub returns-then-d-lt512 : goal.returns-then-d-lt512
returns-then-d-lt512 c =
    let f = sym c.check.ensures ∙ c.if-not-check.false in
    let g = sym c.check-2.ensures ∙ c.if-not-check-2.false in
    let l = lt-leb _ _ c.if-d-lt512.true in
    record { result_value = rw (f, g, l); d_after = rw (f, g, l) }

pub returns : goal.returns
returns c =
    let f = sym c.check.ensures ∙ c.if-not-check.false in
    let g = sym c.check-2.ensures ∙ c.if-not-check-2.false in
    let l = le-leb _ _ c.if-d-lt512.false in
    record { result_value = rw (f, g, l); d_after = rw (f, g, l) c.write_at.ensures }
