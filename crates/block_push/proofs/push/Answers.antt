use Rattle.std.proofs.lemmas.Result.{err_from_is_err_and}
use mathlib.Core.Path.{sym, ap, ◌∙◌}
use Prim.Native.Nat.{ℕ, ◌+◌}
use native.Mathlib.Omega.{arith}
use Rattle.base.specs.Said.{gives}
use Rattle.std.specs.Prelude.{Some}
use Rattle.base.proofs.Checks.{answer-refuses}
use Rattle.table_push.specs.Push.{push_checks}
use Rattle.block.specs.Block.{table_in}
use Rattle.block.proofs.calls.Laws.{passed}
use Rattle.block_slot.specs.Changed.{with_slot}
use Rattle.table_push.proofs.Steps.{push-eight, push-fails, push-gives as push-new, push-done as push-gives}
use Rattle.table.specs.declared.LogicalPartition.{LogicalPartition}
use Rattle.block_push.proofs.Kept.{new-kept}
use Rattle.block_push.proofs.Changed.{asked, made, refused-on, done-on}
use Rattle.block_push.proofs.push.Goals as goal

pub add_new-requires : goal.add_new-requires
add_new-requires c =
    let l = push-new c.request_in-q.result c.in-Some.e c.count-n.result _ (sym c.in_ok-l.ensures) in
    ((passed _ (sym c.in_ok-check.ensures)).long, l.2, ap (λ (l : LogicalPartition). l.kept) l.1 ∙ new-kept _ _)

pub overflow_add-result : goal.overflow_add-result
overflow_add-result c = omega (arith, (push-new c.request_in-q.result c.in-Some.e c.count-n.result _ (sym c.in_ok-l.ensures)).2)

pub overflow_cast-result : goal.overflow_cast-result
overflow_cast-result c = omega (arith, (push-new c.request_in-q.result c.in-Some.e c.count-n.result _ (sym c.in_ok-l.ensures)).2)

pub returns-in_default : goal.returns-in_default
returns-in_default c =
    let h = sym c.in_ok-check.ensures in
    let x = sym c.extended.ensures ∙ c.in_default.is in
    let w = refused-on c.args.b.now c.args.sys c.args.start c.args.sectors h _ (push-eight (table_in c.args.b.now) c.args.sys c.args.start c.args.sectors (passed _ h).few x).0 in
    record { said = w.0; left = w.1 }

pub returns-in_err-l : goal.returns-in_err-l
returns-in_err-l c =
    let q = err_from_is_err_and c.from_residual-in_err-l.result c.from_residual-in_err-l.ensures.1 in
    let h = sym c.in_ok-check.ensures in
    let e = sym c.extended.ensures ∙ c.in-Some.is in
    let t = table_in c.args.b.now in
    let x = asked t c.args.sys c.args.start c.args.sectors _ c.in-Some.e _ c.request_in-q.ensures c.count-n.ensures in
    let f = x ∙ answer-refuses (push_checks c.request_in-q.result (Some c.in-Some.e) c.count-n.result) _ _ (sym c.in_err-l.ensures) in
    let w = refused-on c.args.b.now c.args.sys c.args.start c.args.sectors h _ (push-fails t c.args.sys c.args.start c.args.sectors (passed _ h).few c.in-Some.e _ e f).0 in
    record { said = rw (q.1, q.2) w.0; left = w.1 }

pub returns : goal.returns
returns c =
    let h = sym c.in_ok-check.ensures in
    let few = (passed _ h).few in
    let e = sym c.extended.ensures ∙ c.in-Some.is in
    let t = table_in c.args.b.now in
    let g = push-new c.request_in-q.result c.in-Some.e c.count-n.result _ (sym c.in_ok-l.ensures) in
    let x = asked t c.args.sys c.args.start c.args.sectors _ c.in-Some.e _ c.request_in-q.ensures c.count-n.ensures in
    let f = x ∙ g.0 in
    let l = g.1 ∙ made t c.args.sys c.args.start c.args.sectors _ _ c.request_in-q.ensures c.count-n.ensures in
    let p = (push-gives t c.args.sys c.args.start c.args.sectors few c.in-Some.e e f).0 in
    let w = done-on c.args.b.now c.args.sys c.args.start c.args.sectors h _ _ p l (c.add_new.ensures ∙ ap (λ (m : ℕ). with_slot c.args.b.now m c.in_ok-l.l) c.count-n.ensures) in
    record { said = ap (λ (m : ℕ). gives (m + 5)) c.count-n.ensures ∙ w.0; left = w.1 }
