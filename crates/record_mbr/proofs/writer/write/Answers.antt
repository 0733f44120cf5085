use Rattle.record_mbr.specs.Mbr.{header_checks}
use Rattle.record_mbr.specs.declared.MBRHeader.{MBRHeader}
use Rattle.base.proofs.Checks.{checked-none}
use Rattle.base.specs.Checks.{first-fail}
use Rattle.base.specs.Said.{refusal}
use borrow.Author.Tests.{lt-leb, le-leb}
use Rattle.std.specs.Prelude.{None, Some}
use mathlib.Core.List.{List}
use mathlib.Core.Path.{◌≡◌, sym, ap, ◌∙◌}
use Prim.Native.Nat.{ℕ}
use Rattle.record_mbr.proofs.writer.write.Goals as goal

pub returns-then-d-lt512 : goal.returns-then-d-lt512
returns-then-d-lt512 c =
    let h : MBRHeader = c.args.h in
    let d : List ℕ = c.args.d.now in
    let f : first-fail (header_checks h) ≡ None = sym c.check.ensures ∙ ap refusal c.in_ok-check.was in
    let l = lt-leb _ _ c.if-d-lt512.true in
    record { result_value = sym (checked-none (header_checks h) Some _ f ∙ rw l); d_after = sym (checked-none (header_checks h) (λ _. d) _ f ∙ rw l) }

pub returns : goal.returns
returns c =
    let h : MBRHeader = c.args.h in
    let d : List ℕ = c.args.d.now in
    let f : first-fail (header_checks h) ≡ None = sym c.check.ensures ∙ ap refusal c.in_ok-check.was in
    let l = le-leb _ _ c.if-d-lt512.false in
    record { result_value = sym (checked-none (header_checks h) Some _ f ∙ rw l); d_after = c.write_all.ensures ∙ sym (checked-none (header_checks h) (λ _. d) _ f ∙ rw l) }
