use native.Mathlib.Omega.{arith}
use Rattle.std.specs.Prelude.{Some, Ok, Err}
use mathlib.Core.Path.{sym, ap, ◌∙◌}
use Prim.Native.Nat.{ℕ, ◌+◌, ◌*◌}
use Rattle.extract.specs.Extract.{count}
use Rattle.extract.specs.ListSpot.{SpotOf}
use Rattle.extract.proofs.Good.{good-few}
use Rattle.abi_extract.proofs.record_place.Place.{place_found, place-absent}
use Rattle.abi_extract.proofs.record_place.place_of.Goals as goal

pub offset-requires : goal.offset-requires
offset-requires c =
    let g : SpotOf c.args.x.now c.args.n c.args.lba (Ok c.in-Ok.i) = rw c.in-Ok.is at c.seek.ensures in
    let f = good-few _ c.requires.1 in
    (omega (arith, f, c.requires.0), g.0)

pub returns-in-Err : goal.returns-in-Err
returns-in-Err c =
    let g : SpotOf c.args.x.now c.args.n c.args.lba (Err c.in-Err.field-0) = rw c.in-Err.is at c.seek.ensures in
    let w = place-absent c.args.x.now (24 + count c.args.x.now * 4) c.args.lba c.in-Err.field-0 g.1 (λ j p q. g.2 j p (omega arith)) in
    sym w

pub returns-in-Ok : goal.returns-in-Ok
returns-in-Ok c =
    let g : SpotOf c.args.x.now c.args.n c.args.lba (Ok c.in-Ok.i) = rw c.in-Ok.is at c.seek.ensures in
    let w = place_found c.args.x.now (24 + count c.args.x.now * 4) c.requires.1 c.args.lba c.in-Ok.i (omega (arith, g.0, c.requires.0)) g.1 in
    ap Some (c.offset.ensures ∙ ap (λ (z : ℕ). 24 + z * 4 + c.in-Ok.i * 512) c.requires.0) ∙ sym w
