use mathlib.Core.Path.{sym, ◌∙◌}
use native.Mathlib.Omega.{arith}
use borrow.Author.Rules.{rules}
use lib.Seq.{length-take-le}
use Rattle.table.specs.Table.{logicals, no_logical}
use Rattle.careful_push.proofs.Lists.{order-few, between_none, between-some}
use Rattle.careful_push.proofs.between.between_at.Goals as goal

pub slice_bounds-last-end : goal.slice_bounds-last-end
slice_bounds-last-end c =
    sym (length-take-le _ (logicals c.args.t) (omega (arith, c.order_at-k.ensures, order-few c.args.place (logicals c.args.t))))

pub returns-in-None : goal.returns-in-None
returns-in-None c =
    between_none c.args.e c.args.place (logicals c.args.t) _ _ _ _ c.order_at-k.ensures (c.copied-earlier.ensures ∙ c.last.ensures.value) c.end_of.ensures c.empty.ensures
    (search rules)

pub returns-in-Some : goal.returns-in-Some
returns-in-Some c =
    let i = c.in-Some.ensures.lookup in
    between-some c.args.e c.args.place (logicals c.args.t) _ _ _ no_logical _ c.order_at-k.ensures (c.copied-earlier.ensures ∙ c.last.ensures.value) (i.3.1 no_logical) c.link_to.ensures i.3.0
