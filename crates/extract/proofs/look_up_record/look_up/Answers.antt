use Rattle.base.specs.Said.{refusal_code, answered}
use mathlib.Core.Path.{◌≡◌, sym, ap, ◌∙◌}
use mathlib.Core.List.{[]}
use Prim.Native.Nat.{◌≤◌, ◌<◌}
use Rattle.extract.specs.Extract.{disk_sectors, record_of, Good}
use Rattle.extract.specs.Answers.{header_of}
use Rattle.extract.proofs.Good.{good-told, bad-told, look-bad, look-good, look-past}
use Rattle.extract.proofs.look_up_record.look_up.Goals as goal

pub record_of-requires : goal.record_of-requires
record_of-requires c =
    let told : Good c.args.x.now × (c.in-Ok.e ≡ header_of c.args.x.now) =
    good-told c.args.x.now c.in-Ok.e (sym (ap answered c.in-Ok.is) ∙ c.check.ensures.result_value) c.check.ensures.bytes in
    let t = told in
    (ap (λ h. h.count) t.1, t.0)

pub returns-in_default : goal.returns-in_default
returns-in_default c =
    let e = bad-told c.args.x.now c.in_default.field-0 (sym (ap answered c.in_default.is) ∙ c.check.ensures.result_value) in
    sym (look-bad c.args.x.now c.args.lba (λ n. []) (record_of c.args.x.now c.args.lba) (refusal_code c.in_default.field-0) e)

pub returns-then-lba-e : goal.returns-then-lba-e
returns-then-lba-e c =
    let told : Good c.args.x.now × (c.in-Ok.e ≡ header_of c.args.x.now) =
    good-told c.args.x.now c.in-Ok.e (sym (ap answered c.in-Ok.is) ∙ c.check.ensures.result_value) c.check.ensures.bytes in
    let t = told in
    let h : c.args.lba < disk_sectors c.args.x.now = rw t.1 at c.if-lba-e.true in
    c.record_of.ensures ∙ sym (look-good c.args.x.now c.args.lba (λ n. []) (record_of c.args.x.now c.args.lba) t.0 h)

pub returns-else-lba-e : goal.returns-else-lba-e
returns-else-lba-e c =
    let told : Good c.args.x.now × (c.in-Ok.e ≡ header_of c.args.x.now) =
    good-told c.args.x.now c.in-Ok.e (sym (ap answered c.in-Ok.is) ∙ c.check.ensures.result_value) c.check.ensures.bytes in
    let t = told in
    let h : disk_sectors c.args.x.now ≤ c.args.lba = rw t.1 at c.if-lba-e.false in
    sym (look-past c.args.x.now c.args.lba (λ n. []) (record_of c.args.x.now c.args.lba) t.0 h)
