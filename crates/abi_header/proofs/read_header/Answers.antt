use mathlib.Core.Path.{◌≡◌, sym, ap, ◌∙◌}
use borrow.Author.Rules.{rules}
use Rattle.std.specs.Prelude.{Err}
use Rattle.base.specs.Said.{answered, refusal}
use Rattle.read_table.specs.Read.{header_says}
use Rattle.abi_header.proofs.Laws.{read-refused, read_done}
use Rattle.abi_header.proofs.read_header.Goals as goal

pub returns-in_err-read_header : goal.returns-in_err-read_header
returns-in_err-read_header c =
    let r : c.from_residual.result ≡ Err c.in_err-read_header.field-0.0 = search rules in
    let both = read-refused (header_says c.args.x.now) _ c.args.out.now (sym c.read_header.ensures ∙ ap answered c.in_err-read_header.was) in
    record { said = ap refusal r ∙ both.0; left = both.1 }

pub returns : goal.returns
returns c =
    let both = read_done (header_says c.args.x.now) _ _ c.args.out.now _ (sym c.read_header.ensures ∙ ap answered c.in_ok-read_header.was) c.header_to.ensures.value c.header_to.ensures.out_after in
    record { said = both.0; left = both.1 }
