use Rattle.std.specs.Prelude.{◌≡◌, Err}
use Rattle.base.specs.Said.{answered, gives}
use Rattle.table_address.proofs.Steps.{update-settled}
use borrow.Author.Rules.{rules}
use mathlib.Core.Path.{sym, ap, ◌∙◌}
use Rattle.table_address.proofs.four.update.Goals as goal

pub returns-in_err-first : goal.returns-in_err-first
returns-in_err-first c =
    let e : c.from_residual.result ≡ Err c.in_err-first.field-0.0 = search rules in
    let a = sym c.from_lba_exact.ensures ∙ ap answered c.in_err-first.was in
    ap answered e ∙ sym (update-settled c.args.g c.args.l ∙ rw a)

pub returns-in_err-last : goal.returns-in_err-last
returns-in_err-last c =
    let e : c.from_residual-in_err-last.result ≡ Err c.in_err-last.field-0.0 = search rules in
    let a = sym c.from_lba_exact.ensures ∙ ap answered c.in_ok-first.was in
    let b = sym c.last_of.ensures ∙ ap answered c.in_err-last.was in
    ap answered e ∙ sym (update-settled c.args.g c.args.l ∙ rw (a, b))

pub returns-in_err-link : goal.returns-in_err-link
returns-in_err-link c =
    let e : c.from_residual-in_err-link.result ≡ Err c.in_err-link.field-0.0 = search rules in
    let a = sym c.from_lba_exact.ensures ∙ ap answered c.in_ok-first.was in
    let b = sym c.last_of.ensures ∙ ap answered c.in_ok-last.was in
    let d = sym c.from_lba_exact-2.ensures ∙ ap answered c.in_err-link.was in
    ap answered e ∙ sym (update-settled c.args.g c.args.l ∙ rw (a, b, d))

pub returns-in_err-end : goal.returns-in_err-end
returns-in_err-end c =
    let e : c.from_residual-in_err-end.result ≡ Err c.in_err-end.field-0.0 = search rules in
    let a = sym c.from_lba_exact.ensures ∙ ap answered c.in_ok-first.was in
    let b = sym c.last_of.ensures ∙ ap answered c.in_ok-last.was in
    let d = sym c.from_lba_exact-2.ensures ∙ ap answered c.in_ok-link.was in
    let f = sym c.link_last.ensures ∙ ap answered c.in_err-end.was in
    ap answered e ∙ sym (update-settled c.args.g c.args.l ∙ rw (a, b, d, f))

pub returns : goal.returns
returns c =
    let a = sym c.from_lba_exact.ensures ∙ ap answered c.in_ok-first.was in
    let b = sym c.last_of.ensures ∙ ap answered c.in_ok-last.was in
    let d = sym c.from_lba_exact-2.ensures ∙ ap answered c.in_ok-link.was in
    let f = sym c.link_last.ensures ∙ ap answered c.in_ok-end.was in
    ap gives c.with_addresses.ensures ∙ sym (update-settled c.args.g c.args.l ∙ rw (a, b, d, f))
