use Rattle.std.specs.Prelude.{◌≡◌, ◌++◌, List, [], ◌∷◌, Err, ltb}
use Rattle.base.specs.Said.{answered, gives, refuses}
use Rattle.base.specs.Checks.{Check, ◌!◌}
use Rattle.base.proofs.Checks.{answer-refuses, answer-gives, checked-some, checked-none}
use Rattle.table.specs.Table.{most}
use Rattle.table.specs.declared.LogicalPartition.{LogicalPartition}
use Rattle.table_push.specs.Push.{geometry_checks, new_logical, later_than}
use Rattle.table_push.proofs.Steps.{fails-address, fails-count, fails-none}
use borrow.Author.Rules.{rules}
use mathlib.Core.Path.{sym, ap, ◌∙◌}
use Rattle.table_push.proofs.placed_logical.Goals as goal

pub returns-in_err-l : goal.returns-in_err-l
unfolding geometry_checks new_logical
returns-in_err-l c =
    let q = c.args.q in
    let n = c.args.n in
    let a : List Check = geometry_checks (later_than n) q in
    let l : LogicalPartition = new_logical (later_than n) q in
    let e : c.from_residual.result ≡ Err c.in_err-l.field-0.0 = search rules in
    let w = rw c.fresh_logical.ensures at c.with_geometry.ensures in
    let f = answer-refuses a l _ (sym w ∙ ap answered c.in_err-l.was) in
    ap answered e ∙ sym (checked-some (a ++ (6 ! ltb n most) ∷ []) refuses (gives l) _ (fails-address q n _ f))

pub returns-then-n-ge-LOGICALS : goal.returns-then-n-ge-LOGICALS
unfolding geometry_checks new_logical
returns-then-n-ge-LOGICALS c =
    let q = c.args.q in
    let n = c.args.n in
    let a : List Check = geometry_checks (later_than n) q in
    let l : LogicalPartition = new_logical (later_than n) q in
    let w = rw c.fresh_logical.ensures at c.with_geometry.ensures in
    let f = answer-gives a l _ (sym w ∙ ap answered c.in_ok-l.was) in
    sym (checked-some (a ++ (6 ! ltb n most) ∷ []) refuses (gives l) 6 (fails-count q n f.0 c.if-n-ge-LOGICALS.true))

pub returns : goal.returns
unfolding geometry_checks new_logical
returns c =
    let q = c.args.q in
    let n = c.args.n in
    let a : List Check = geometry_checks (later_than n) q in
    let l : LogicalPartition = new_logical (later_than n) q in
    let w = rw c.fresh_logical.ensures at c.with_geometry.ensures in
    let f = answer-gives a l _ (sym w ∙ ap answered c.in_ok-l.was) in
    ap gives (sym f.1) ∙ sym (checked-none (a ++ (6 ! ltb n most) ∷ []) refuses (gives l) (fails-none q n f.0 c.if-n-ge-LOGICALS.false))
