use Rattle.std.specs.Prelude.{◌≡◌, Err}
use Rattle.base.specs.Said.{answered}
use Rattle.extract.proofs.Good.{good-told}
use Rattle.extract.specs.declared.Extract.{Extract}
use Rattle.extract.specs.Extract.{disk_of}
use Rattle.read_table.specs.Read.{table_read}
use Rattle.read_table.proofs.Says.{read-bad, read-good, head-refused, head-given}
use borrow.Author.Rules.{rules}
use mathlib.Core.Path.{ap, ◌∙◌}
use Rattle.read_table.proofs.read_from.Goals as goal

pub returns-in_err-e : goal.returns-in_err-e
returns-in_err-e c =
    let r : c.from_residual.result ≡ Err c.in_err-e.field-0.0 = search rules in
    ap answered r ∙ ap table_read (read-bad c.args.x.now _ c.in_err-e.ensures.result_value)

pub header_of-requires : goal.header_of-requires
header_of-requires c =
    let t = good-told c.args.x.now c.in_ok-e.e c.in_ok-e.ensures.result_value c.in_ok-e.ensures.bytes in
    record { n_value = (ap (λ (y : Extract). y.count) t.1, t.0); d_value = ap (λ (y : Extract). y.disk_size) t.1 }

pub returns-in_err-header : goal.returns-in_err-header
returns-in_err-header c =
    let r : c.from_residual-in_err-header.result ≡ Err c.in_err-header.field-0.0 = search rules in
    ap answered r ∙ ap table_read (head-refused (disk_of c.args.x.now) _ c.in_err-header.ensures ∙ read-good c.args.x.now c.in_ok-e.e c.in_ok-e.ensures.result_value)

pub with_chain-requires : goal.with_chain-requires
with_chain-requires c =
    let t = good-told c.args.x.now c.in_ok-e.e c.in_ok-e.ensures.result_value c.in_ok-e.ensures.bytes in
    (t.1, t.0)

pub returns : goal.returns
returns c =
    c.with_chain.ensures
    ∙ ap table_read (head-given (disk_of c.args.x.now) c.in_ok-header.header c.in_ok-header.ensures ∙ read-good c.args.x.now c.in_ok-e.e c.in_ok-e.ensures.result_value)
