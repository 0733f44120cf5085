use Rattle.std.specs.Prelude.{◌≡◌, ◌+◌, Err, None, Some, set}
use Rattle.base.specs.Said.{answered}
use Rattle.base.proofs.Checks.{answer-refuses}
use Rattle.table.specs.declared.LogicalPartition.{LogicalPartition}
use Rattle.table.specs.Table.{extended_in, with_logicals}
use Rattle.table_push.specs.Push.{request_of, push_says, push_table, push_checks, table_push_checks, new_logical, later_than}
use Rattle.table_push.proofs.Steps.{push-gives, push-eight, push-fails, push-done}
use borrow.Author.Rules.{rules}
use borrow.Author.Tests.{lt-leb}
use mathlib.Core.Path.{sym, ap, ◌∙◌}
use Rattle.table_push.proofs.push.Goals as goal

pub returns-then-n-gt-LOGICALS : goal.returns-then-n-gt-LOGICALS
unfolding push_says push_table table_push_checks
returns-then-n-gt-LOGICALS c =
    let f = lt-leb _ _ c.if-n-gt-LOGICALS.true in
    record { answer_value = rw f; table_value = rw f }

pub returns-in_default : goal.returns-in_default
returns-in_default c =
    let t = c.args.t.now in
    let x : extended_in t ≡ None = sym c.get_extended_partition.ensures ∙ c.in_default.is in
    let z = push-eight t c.args.sys c.args.starting_lba c.args.sectors c.if-n-gt-LOGICALS.false x in
    record { answer_value = sym z.0; table_value = sym z.1 }

pub returns-in_err-l : goal.returns-in_err-l
returns-in_err-l c =
    let t = c.args.t.now in
    let x = sym c.get_extended_partition.ensures ∙ c.in-Some.is in
    let e : c.from_residual.result ≡ Err c.in_err-l.field-0.0 = search rules in
    let q = request_of t c.args.sys c.args.starting_lba c.args.sectors in
    let f = answer-refuses (push_checks q (Some c.in-Some.e) t.count) (new_logical (later_than t.count) q) _ (sym c.new_logical.ensures ∙ ap answered c.in_err-l.was) in
    let z = push-fails t c.args.sys c.args.starting_lba c.args.sectors c.if-n-gt-LOGICALS.false _ _ x f in
    record { answer_value = ap answered e ∙ sym z.0; table_value = sym z.1 }

pub bounds-t-n : goal.bounds-t-n
bounds-t-n c =
    let t = c.args.t.now in
    (push-gives (request_of t c.args.sys c.args.starting_lba c.args.sectors) c.in-Some.e t.count _ (sym c.new_logical.ensures ∙ ap answered c.in_ok-l.was)).2

pub returns : goal.returns
returns c =
    let t = c.args.t.now in
    let x = sym c.get_extended_partition.ensures ∙ c.in-Some.is in
    let m = push-gives (request_of t c.args.sys c.args.starting_lba c.args.sectors) c.in-Some.e t.count _ (sym c.new_logical.ensures ∙ ap answered c.in_ok-l.was) in
    let z = push-done t c.args.sys c.args.starting_lba c.args.sectors c.if-n-gt-LOGICALS.false _ x m.0 in
    record { answer_value = sym z.0; table_value = ap (λ (l : LogicalPartition). with_logicals t (set t.logical_partitions t.count l) (t.count + 1)) m.1 ∙ sym z.1 }
