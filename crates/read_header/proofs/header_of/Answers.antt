use Rattle.read_header.proofs.Says.{header-past, header-blank, header-lent}
use Rattle.record_mbr.specs.Mbr.{mbr_of, mbr_read_checks}
use Rattle.base.specs.Checks.{answer}
use borrow.Author.Tests.{eqb-true, eqb-false}
use lib.ListN.{length}
use Prim.Native.Nat.{ℕ}
use mathlib.Core.List.{List}
use mathlib.Core.Path.{sym, ap, ◌∙◌}
use Rattle.read_header.proofs.header_of.Goals as goal

pub returns-then-d-eq0 : goal.returns-then-d-eq0
returns-then-d-eq0 c = header-past c.args.x.now (sym c.requires.d_value ∙ c.if-d-eq0.true)

pub returns-then-is_empty : goal.returns-then-is_empty
returns-then-is_empty c =
    let z = eqb-true _ _ (sym c.is_empty.ensures ∙ c.if-is_empty.true) in
    header-blank c.args.x.now c.requires.n_value.1 (λ z. c.if-d-eq0.false (c.requires.d_value ∙ z)) (sym (ap length c.record_of-r.ensures) ∙ z)

pub returns : goal.returns
returns c =
    let z = eqb-false _ _ (sym c.is_empty.ensures ∙ c.if-is_empty.false) in
    c.read.ensures
    ∙ ap (λ (r : List ℕ). answer (mbr_read_checks r) (mbr_of r)) c.record_of-r.ensures
    ∙ header-lent c.args.x.now c.requires.n_value.1 (λ z. c.if-d-eq0.false (c.requires.d_value ∙ z)) (λ e. z (ap length c.record_of-r.ensures ∙ e))
