use mathlib.Core.Path.{◌≡◌, sym, ap, ◌∙◌}
use borrow.Author.Rules.{rules}
use Rattle.std.specs.Prelude.{Err}
use Rattle.base.specs.Said.{refusal}
use Rattle.block.specs.Block.{table_in}
use Rattle.write_rules.proofs.as_written.Laws.{settle-fails, settle-rows}
use Rattle.write_logicals.proofs.check_logicals.Goals as goal

pub returns-in_err-addresses : goal.returns-in_err-addresses
returns-in_err-addresses c =
    let e : c.from_residual.result ≡ Err c.in_err-addresses.field-0.0 = search rules in
    ap refusal e ∙ sym (settle-fails (table_in c.args.b.now) c.args.x c.args.d _ (sym c.addresses.ensures ∙ ap refusal c.in_err-addresses.was))

pub returns : goal.returns
returns c = c.rows.ensures ∙ sym (settle-rows (table_in c.args.b.now) c.args.x c.args.d (sym c.addresses.ensures ∙ ap refusal c.in_ok-addresses.was))
