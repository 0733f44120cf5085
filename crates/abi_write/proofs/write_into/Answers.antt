use mathlib.Core.Path.{◌≡◌, sym, ap, ◌∙◌}
use borrow.Author.Rules.{rules}
use Rattle.std.specs.Prelude.{Err}
use Rattle.base.specs.Said.{answered, refusal}
use Rattle.block.proofs.calls.Laws.{passed}
use Rattle.abi_write.proofs.Laws.{into-refused, into-done}
use Rattle.abi_write.proofs.write_into.Goals as goal

pub write_in_place-requires : goal.write_in_place-requires
write_in_place-requires c = passed _ (sym c.check.ensures ∙ ap refusal c.in_ok-check.was)

pub returns-in_err-check : goal.returns-in_err-check
returns-in_err-check c =
    let r : c.from_residual.result ≡ Err c.in_err-check.field-0.0 = search rules in
    let both = into-refused c.args.b.now c.args.x.now c.args.out.now _ (sym c.check.ensures ∙ ap refusal c.in_err-check.was) in
    record { said = ap answered r ∙ both.0; left = both.1.0; block = both.1.1.0; table = both.1.1.1 }

pub returns : goal.returns
returns c =
    let h = sym c.check.ensures ∙ ap refusal c.in_ok-check.was in
    let both = into-done c.args.b.now c.args.x.now c.args.out.now _ _ _ h (c.write_in_place.ensures.result_value, (c.write_in_place.ensures.out_after, (c.write_in_place.ensures.b_after, c.write_in_place.ensures.b_after_2))) in
    record { said = both.0; left = both.1.0; block = both.1.1.0; table = both.1.1.1 }
