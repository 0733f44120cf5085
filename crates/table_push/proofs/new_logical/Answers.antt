use Rattle.std.specs.Prelude.{◌≡◌, Err, Some}
use Rattle.base.specs.Said.{answered, refusal, refuses}
use Rattle.base.proofs.Checks.{answer-refuses, checked-some}
use Rattle.table_push.specs.Asked.{round_checks}
use Rattle.table_push.specs.Push.{push_checks}
use Rattle.table_push.proofs.Steps.{rounds, place-fits, fails-round, fails-place, fails-end, fails-rest, goes-on}
use borrow.Author.Rules.{rules}
use mathlib.Core.Path.{sym, ap, ◌∙◌}
use Rattle.table_push.proofs.new_logical.Goals as goal

pub place_rules-place-requires : goal.place_rules-place-requires
place_rules-place-requires c =
    let r = rounds c.args.q _ (sym c.rounding.ensures ∙ ap answered c.in_ok-p.was) in
    (r.1, r.2)

pub end_rules-end-requires : goal.end_rules-end-requires
end_rules-end-requires c =
    let r = rounds c.args.q _ (sym c.rounding.ensures ∙ ap answered c.in_ok-p.was) in
    (r.1, r.2)

pub placed_logical-requires : goal.placed_logical-requires
placed_logical-requires c =
    let r = rounds c.args.q _ (sym c.rounding.ensures ∙ ap answered c.in_ok-p.was) in
    let f = place-fits c.args.q c.args.e c.args.n (sym c.place_rules-place.ensures ∙ ap refusal c.in_ok-place.was) in
    (r.1, r.2, rw r.1 f.0, rw r.2 f.1)

pub returns-in_err-p : goal.returns-in_err-p
returns-in_err-p c =
    let e : c.from_residual.result ≡ Err c.in_err-p.field-0.0 = search rules in
    let f = answer-refuses (round_checks c.args.q) _ _ (sym c.rounding.ensures ∙ ap answered c.in_err-p.was) in
    ap answered e ∙ sym (checked-some (push_checks c.args.q (Some c.args.e) c.args.n) refuses _ _ (fails-round c.args.q c.args.e c.args.n _ f))

pub returns-in_err-place : goal.returns-in_err-place
returns-in_err-place c =
    let e : c.from_residual-in_err-place.result ≡ Err c.in_err-place.field-0.0 = search rules in
    let r = rounds c.args.q _ (sym c.rounding.ensures ∙ ap answered c.in_ok-p.was) in
    let f = sym c.place_rules-place.ensures ∙ ap refusal c.in_err-place.was in
    ap answered e ∙ sym (checked-some (push_checks c.args.q (Some c.args.e) c.args.n) refuses _ _ (fails-place c.args.q c.args.e c.args.n _ r.0 f))

pub returns-in_err-end : goal.returns-in_err-end
returns-in_err-end c =
    let e : c.from_residual-in_err-end.result ≡ Err c.in_err-end.field-0.0 = search rules in
    let r = rounds c.args.q _ (sym c.rounding.ensures ∙ ap answered c.in_ok-p.was) in
    let f = sym c.place_rules-place.ensures ∙ ap refusal c.in_ok-place.was in
    let g = sym c.end_rules-end.ensures ∙ ap refusal c.in_err-end.was in
    ap answered e ∙ sym (checked-some (push_checks c.args.q (Some c.args.e) c.args.n) refuses _ _ (fails-end c.args.q c.args.e c.args.n _ r.0 f g))

pub returns : goal.returns
returns c =
    let r = rounds c.args.q _ (sym c.rounding.ensures ∙ ap answered c.in_ok-p.was) in
    let f = sym c.place_rules-place.ensures ∙ ap refusal c.in_ok-place.was in
    let g = sym c.end_rules-end.ensures ∙ ap refusal c.in_ok-end.was in
    c.placed_logical.ensures ∙ sym (goes-on c.args.q c.args.e c.args.n (fails-rest c.args.q c.args.e c.args.n r.0 f g))
