use Rattle.std.specs.Prelude.{◌≡◌, List, Some, Err, ℕ}
use Rattle.base.specs.Said.{answered, refusal, refusal_code, gives, refuses}
use Rattle.base.specs.Checks.{first-fail}
use Rattle.base.proofs.Checks.{checked-some}
use Rattle.record_mbr.specs.declared.MBRHeader.{MBRHeader}
use Rattle.record_mbr.specs.Mbr.{mbr_of, mbr_read_checks, header_checks}
use borrow.Author.Rules.{rules}
use borrow.Author.Tests.{eq-eqb}
use mathlib.Core.Path.{sym, ap, ◌∙◌}
use Rattle.record_mbr.proofs.reader.read.Goals as goal

pub returns-in_err-check : goal.returns-in_err-check
returns-in_err-check c =
    let s : List ℕ = c.args.r.now in
    let k = refusal_code c.in_err-check.field-0.0 in
    let p : c.from_residual.result ≡ Err c.in_err-check.field-0.0 = search rules in
    let h : first-fail (header_checks (mbr_of s)) ≡ Some k =
    ap (λ (m : MBRHeader). first-fail (header_checks m)) (sym c.decode-header.ensures) ∙ sym c.check.ensures ∙ ap refusal c.in_err-check.was in
    let f : first-fail (mbr_read_checks s) ≡ Some k = rw (eq-eqb _ _ c.if-r-ne512.false) h in
    ap answered p ∙ sym (checked-some (mbr_read_checks s) refuses (gives (mbr_of s)) k f)
