use Rattle.base.specs.Said.{refusal_code, answered, refusal}
use borrow.Author.Rules.{rules}
use mathlib.Core.Path.{◌≡◌, sym, ap, ◌∙◌}
use Rattle.std.specs.Prelude.{None, Some, Err}
use Prim.Native.Nat.{◌≤◌, ◌<◌}
use Rattle.extract.specs.Extract.{disk_sectors}
use Rattle.extract.specs.Answers.{look_says}
use Rattle.extract.proofs.Good.{good-told, bad-told, look-bad, look-good, look-past}
use Rattle.extract.proofs.look_up_record.look_up_answer.Goals as goal

pub returns-in_err-e : goal.returns-in_err-e
unfolding look_says
returns-in_err-e c =
    let p : c.from_residual.result ≡ Err c.in_err-e.field-0.0 = search rules in
    let e = bad-told c.args.x.now c.in_err-e.field-0.0 (sym (ap answered c.in_err-e.was) ∙ c.check.ensures.result_value) in
    ap refusal p ∙ sym (look-bad c.args.x.now c.args.lba Some None (refusal_code c.in_err-e.field-0.0) e)

pub returns-then-e-lba : goal.returns-then-e-lba
unfolding look_says
returns-then-e-lba c =
    let t = good-told c.args.x.now c.in_ok-e.e (sym (ap answered c.in_ok-e.was) ∙ c.check.ensures.result_value) c.check.ensures.bytes in
    let h : disk_sectors c.args.x.now ≤ c.args.lba = rw t.1 at c.if-e-lba.true in
    sym (look-past c.args.x.now c.args.lba Some None t.0 h)

pub returns : goal.returns
unfolding look_says
returns c =
    let t = good-told c.args.x.now c.in_ok-e.e (sym (ap answered c.in_ok-e.was) ∙ c.check.ensures.result_value) c.check.ensures.bytes in
    let h : c.args.lba < disk_sectors c.args.x.now = rw t.1 at c.if-e-lba.false in
    sym (look-good c.args.x.now c.args.lba Some None t.0 h)
