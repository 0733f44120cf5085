use mathlib.Core.Path.{sym}
use lib.ListN.{length}
use Rattle.base.specs.Said.{gives, refuses}
use Rattle.base.specs.Put.{put}
use Rattle.extract_lay.specs.Layover.{new_extract}
use Rattle.extract_lay.proofs.Rules.{room-many, room-short, room-said, room-left}
use Rattle.extract_lay.proofs.replace.lay_at.Goals as goal

pub returns-then-m-gt-RECORDS : goal.returns-then-m-gt-RECORDS
returns-then-m-gt-RECORDS c =
    let new = new_extract c.args.x.now c.args.lba c.args.sector.now in
    let e = room-many c.args.x.now c.args.e c.args.p c.args.q c.args.lba c.args.sector.now c.requires (length c.args.out.now) refuses (gives (length new)) in
    let u = room-many c.args.x.now c.args.e c.args.p c.args.q c.args.lba c.args.sector.now c.requires (length c.args.out.now) (λ k. c.args.out.now) (put c.args.out.now 0 new) in
    record { said = sym (e c.if-m-gt-RECORDS.true); left = sym (u c.if-m-gt-RECORDS.true) }

pub returns-then-out-total : goal.returns-then-out-total
returns-then-out-total c =
    let new = new_extract c.args.x.now c.args.lba c.args.sector.now in
    let e = room-short c.args.x.now c.args.e c.args.p c.args.q c.args.lba c.args.sector.now c.requires (length c.args.out.now) refuses (gives (length new)) in
    let u = room-short c.args.x.now c.args.e c.args.p c.args.q c.args.lba c.args.sector.now c.requires (length c.args.out.now) (λ k. c.args.out.now) (put c.args.out.now 0 new) in
    record { said = sym (e c.if-m-gt-RECORDS.false c.if-out-total.true); left = sym (u c.if-m-gt-RECORDS.false c.if-out-total.true) }

pub returns : goal.returns
returns c =
    record { said = room-said c.args.x.now c.args.e c.args.p c.args.q c.args.lba c.args.sector.now c.requires c.args.out.now c.if-m-gt-RECORDS.false c.if-out-total.false; left = room-left c.args.x.now c.args.e c.args.p c.args.q c.args.lba c.args.sector.now c.requires c.args.out.now _ c.if-m-gt-RECORDS.false c.if-out-total.false c.put_extract.ensures }
