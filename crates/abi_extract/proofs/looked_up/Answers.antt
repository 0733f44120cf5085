use Rattle.base.specs.Said.{refusal_code}
use Rattle.std.specs.Prelude.{None}
use mathlib.Core.Path.{sym, ap, ◌∙◌}
use Prim.Native.Nat.{◌+◌, ◌*◌, ◌≤◌, ◌<◌}
use Rattle.extract.specs.Extract.{disk_sectors, count, lbas}
use Rattle.extract.proofs.Good.{good-told, bad-told, look-bad, look-good, look-past}
use Rattle.abi_extract.specs.Place.{record_place}
use Rattle.abi_extract.proofs.looked_up.Goals as goal

pub returns-in_default : goal.returns-in_default
returns-in_default c =
    let x = c.args.x.now in
    let e = bad-told x c.in_default.field-0 c.in_default.ensures.result_value in
    sym (look-bad x c.args.lba (λ n. None) (record_place (24 + count x * 4) (lbas x) c.args.lba) (refusal_code c.in_default.field-0) e)

pub returns-then-e-lba : goal.returns-then-e-lba
returns-then-e-lba c =
    let x = c.args.x.now in
    let t = good-told x c.in-Ok.e c.in-Ok.ensures.result_value c.in-Ok.ensures.bytes in
    let h : disk_sectors x ≤ c.args.lba = rw t.1 at c.if-e-lba.true in
    sym (look-past x c.args.lba (λ n. None) (record_place (24 + count x * 4) (lbas x) c.args.lba) t.0 h)

pub place_of-requires : goal.place_of-requires
place_of-requires c =
    let t = good-told c.args.x.now c.in-Ok.e c.in-Ok.ensures.result_value c.in-Ok.ensures.bytes in
    (ap (λ h. h.count) t.1, t.0)

pub returns : goal.returns
returns c =
    let x = c.args.x.now in
    let t = good-told x c.in-Ok.e c.in-Ok.ensures.result_value c.in-Ok.ensures.bytes in
    let h : c.args.lba < disk_sectors x = rw t.1 at c.if-e-lba.false in
    c.place_of.ensures ∙ sym (look-good x c.args.lba (λ n. None) (record_place (24 + count x * 4) (lbas x) c.args.lba) t.0 h)
