use Rattle.std.specs.Prelude.{◌≡◌, Err}
use Rattle.base.specs.Said.{answered}
use Rattle.read_header.proofs.Says.{header-bad, header-good}
use Rattle.extract.specs.declared.Extract.{Extract}
use Rattle.extract.proofs.Good.{good-told}
use borrow.Author.Rules.{rules}
use mathlib.Core.Path.{sym, ap, ◌∙◌}
use Rattle.read_header.proofs.read_header.Goals as goal

pub header_of-requires : goal.header_of-requires
header_of-requires c =
    let t = good-told c.args.x.now c.in_ok-e.e (sym (ap answered c.in_ok-e.was) ∙ c.check.ensures.result_value) c.check.ensures.bytes in
    record { n_value = (ap (λ (y : Extract). y.count) t.1, t.0); d_value = ap (λ (y : Extract). y.disk_size) t.1 }

pub returns-in_err-e : goal.returns-in_err-e
returns-in_err-e c =
    let e : c.from_residual.result ≡ Err c.in_err-e.field-0.0 = search rules in
    ap answered e ∙ header-bad c.args.x.now _ (sym (ap answered c.in_err-e.was) ∙ c.check.ensures.result_value)

pub returns : goal.returns
returns c = c.header_of.ensures ∙ header-good c.args.x.now c.in_ok-e.e (sym (ap answered c.in_ok-e.was) ∙ c.check.ensures.result_value)
