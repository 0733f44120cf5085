use Rattle.std.specs.Prelude.{Ok, Err}
use native.Mathlib.Omega.{arith}
use mathlib.Core.List.{[]}
use mathlib.Core.Path.{sym, ◌∙◌}
use Rattle.extract.specs.ListSpot.{SpotOf}
use Rattle.extract.proofs.Halves.{found-is, absent-is}
use Rattle.extract.proofs.record_of.Goals as goal

pub record_at-requires : goal.record_at-requires
record_at-requires c =
    let g : SpotOf c.args.x.now c.args.n c.args.lba (Ok c.in-Ok.i) = rw c.in-Ok.is at c.seek.ensures in
    record { n_value = c.requires; i_lt_n = g.0 }

pub returns-in-Err : goal.returns-in-Err
returns-in-Err c =
    let g : SpotOf c.args.x.now c.args.n c.args.lba (Err c.in-Err.field-0) = rw c.in-Err.is at c.seek.ensures in
    sym (absent-is c.args.x.now [] c.args.lba c.in-Err.field-0 g.1 (λ j p q. g.2 j p (omega arith)))

pub returns-in-Ok : goal.returns-in-Ok
returns-in-Ok c =
    let g : SpotOf c.args.x.now c.args.n c.args.lba (Ok c.in-Ok.i) = rw c.in-Ok.is at c.seek.ensures in
    c.record_at.ensures ∙ sym (found-is c.args.x.now [] c.requires.1 c.args.lba c.in-Ok.i (omega (arith, g.0, c.requires.0)) g.1)
