use borrow.Author.Rules.{rules}
use Rattle.std.specs.Prelude.{Err}
use mathlib.Core.Path.{◌≡◌, sym, ap, ◌∙◌}
use Prim.Native.Nat.{◌≤◌, ◌<◌}
use lib.ListN.{length}
use Rattle.base.specs.Bytes.{Record}
use Rattle.base.specs.Said.{answered, gives, refuses}
use Rattle.base.specs.Put.{put}
use Rattle.base.proofs.Bytes.{bytes-all}
use Rattle.extract.specs.Extract.{disk_sectors, Good}
use Rattle.extract.specs.Answers.{header_of}
use Rattle.extract.proofs.Good.{good-told, bad-told}
use Rattle.extract_lay.specs.Layover.{new_extract}
use Rattle.extract_lay.specs.Answers.{lay_says, lay_leaves}
use Rattle.extract_lay.proofs.Cut.{laying-found, laying-absent}
use Rattle.extract_lay.proofs.Rules.{lay-bad, lay-record, lay-past, on-said, on-left}
use Rattle.extract_lay.proofs.over.lay_over.Goals as goal
use Rattle.extract_lay.proofs.over.lay_over.Goals.{in-Ok, in-Err}
use Rattle.extract_lay.proofs.Cut.{laying-found, laying-absent}

pub returns-then-sector-ne512 : goal.returns-then-sector-ne512
unfolding lay_says lay_leaves
returns-then-sector-ne512 c =
    let told : Good c.args.x.now × (c.in_ok-e.e ≡ header_of c.args.x.now) =
    good-told c.args.x.now c.in_ok-e.e (sym (ap answered c.in_ok-e.was) ∙ c.check.ensures.result_value) c.check.ensures.bytes in
    let new = new_extract c.args.x.now c.args.lba c.args.sector.now in
    let e = lay-record c.args.x.now c.args.lba c.args.sector.now (length c.args.out.now) refuses (gives (length new)) in
    let u = lay-record c.args.x.now c.args.lba c.args.sector.now (length c.args.out.now) (λ k. c.args.out.now) (put c.args.out.now 0 new) in
    record { said = sym (e told.0 c.if-sector-ne512.true); left = sym (u told.0 c.if-sector-ne512.true) }

pub returns-then-e-lba : goal.returns-then-e-lba
unfolding lay_says lay_leaves
returns-then-e-lba c =
    let told : Good c.args.x.now × (c.in_ok-e.e ≡ header_of c.args.x.now) =
    good-told c.args.x.now c.in_ok-e.e (sym (ap answered c.in_ok-e.was) ∙ c.check.ensures.result_value) c.check.ensures.bytes in
    let new = new_extract c.args.x.now c.args.lba c.args.sector.now in
    let t = told in
    let h : disk_sectors c.args.x.now ≤ c.args.lba = rw t.1 at c.if-e-lba.true in
    let e = lay-past c.args.x.now c.args.lba c.args.sector.now (length c.args.out.now) refuses (gives (length new)) in
    let u = lay-past c.args.x.now c.args.lba c.args.sector.now (length c.args.out.now) (λ k. c.args.out.now) (put c.args.out.now 0 new) in
    record { said = sym (e t.0 c.if-sector-ne512.false h); left = sym (u t.0 c.if-sector-ne512.false h) }

pub seek-requires : goal.seek-requires
seek-requires c =
    let told : Good c.args.x.now × (c.in_ok-e.e ≡ header_of c.args.x.now) =
    good-told c.args.x.now c.in_ok-e.e (sym (ap answered c.in_ok-e.was) ∙ c.check.ensures.result_value) c.check.ensures.bytes in
    let t = told in
    (ap (λ h. h.count) t.1, t.0)

pub lay_at-requires : goal.lay_at-requires
lay_at-requires c =
    let told : Good c.args.x.now × (c.in_ok-e.e ≡ header_of c.args.x.now) =
    good-told c.args.x.now c.in_ok-e.e (sym (ap answered c.in_ok-e.was) ∙ c.check.ensures.result_value) c.check.ensures.bytes in
    let r : Record c.args.sector.now = record { long = c.if-sector-ne512.false; bytes = bytes-all c.args.sector.now (λ i. (c.type_inv.sector i).fits) } in
    elim c.match-seek.branch [
      | in-Ok w ↦ rw w.from-is (laying-found c.args.x.now told.0 c.in_ok-e.e told.1 c.args.lba w.in-Ok.i c.args.sector.now r c.ranges.lba.fits (rw w.in-Ok.is at c.seek.ensures))
      | in-Err w ↦ rw w.from-is (laying-absent c.args.x.now told.0 c.in_ok-e.e told.1 c.args.lba w.in-Err.i c.args.sector.now r c.ranges.lba.fits (rw w.in-Err.is at c.seek.ensures))
    ]

pub returns-in_err-e : goal.returns-in_err-e
unfolding lay_says lay_leaves
returns-in_err-e c =
    let new = new_extract c.args.x.now c.args.lba c.args.sector.now in
    let r : c.from_residual.result ≡ Err c.in_err-e.field-0.0 = search rules in
    let h = bad-told c.args.x.now _ (sym (ap answered c.in_err-e.was) ∙ c.check.ensures.result_value) in
    let e = lay-bad c.args.x.now c.args.lba c.args.sector.now (length c.args.out.now) refuses (gives (length new)) in
    let u = lay-bad c.args.x.now c.args.lba c.args.sector.now (length c.args.out.now) (λ _. c.args.out.now) (put c.args.out.now 0 new) in
    record { said = ap answered r ∙ sym (e _ h); left = sym (u _ h) }

pub returns : goal.returns
returns c =
    let told : Good c.args.x.now × (c.in_ok-e.e ≡ header_of c.args.x.now) =
    good-told c.args.x.now c.in_ok-e.e (sym (ap answered c.in_ok-e.was) ∙ c.check.ensures.result_value) c.check.ensures.bytes in
    let inside : c.args.lba < disk_sectors c.args.x.now = rw told.1 at c.if-e-lba.false in
    record { said = on-said c.args.x.now c.args.lba c.args.sector.now c.args.out.now told.0 c.if-sector-ne512.false inside _ c.lay_at.ensures.said; left = on-left c.args.x.now c.args.lba c.args.sector.now c.args.out.now told.0 c.if-sector-ne512.false inside _ c.lay_at.ensures.left }
