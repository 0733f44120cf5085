use Rattle.std.specs.Prelude.{◌≡◌, Err}
use borrow.Author.Rules.{rules}
use Rattle.base.specs.Said.{gives, answered}
use Rattle.read_table.proofs.Wants.{want-bad, want-good}
use Rattle.extract.proofs.Good.{good-told}
use Rattle.extract.specs.declared.Extract.{Extract}
use mathlib.Core.Path.{ap, ◌∙◌}
use Rattle.read_table.proofs.wanted.Goals as goal

pub wanted_of-requires : goal.wanted_of-requires
wanted_of-requires c =
    let t = good-told c.args.x.now c.in_ok-good.good c.in_ok-good.ensures.result_value c.in_ok-good.ensures.bytes in
    record { n_value = (ap (λ (y : Extract). y.count) t.1, t.0); size_value = ap (λ (y : Extract). y.disk_size) t.1 }

pub returns-in_err-good : goal.returns-in_err-good
returns-in_err-good c =
    let e : c.from_residual.result ≡ Err c.in_err-good.field-0.0 = search rules in
    ap answered e ∙ want-bad c.args.x.now _ c.in_err-good.ensures.result_value

pub returns : goal.returns
returns c = ap gives c.wanted_of.ensures ∙ want-good c.args.x.now c.in_ok-good.good c.in_ok-good.ensures.result_value
