use mathlib.Core.Path.{◌≡◌, sym, ap, ◌∙◌}
use Rattle.std.specs.Prelude.{None, Some, Ok, Err}
use native.Mathlib.Omega.{arith}
use Prim.Native.Nat.{ℕ, ◌+◌, ◌≤◌, ◌<◌}
use Rattle.extract.specs.Extract.{count, lba_at, disk_sectors}
use Rattle.extract.specs.ListSpot.{SpotOf}
use Rattle.chain.specs.Walk.{place_on, reached_said}
use Rattle.chain.proofs.Decision.{place_at, place-beyond}
use Rattle.chain.proofs.Steps.{open-past, lack-past, open-blank, lack-blank, open-number, lack-number}
use Rattle.chain.proofs.open_at.Goals as goal

pub open_record-requires : goal.open_record-requires
open_record-requires c =
    let g : SpotOf c.args.x.now c.args.n c.in-Some.at.0 (Ok c.in-Ok.i) = rw c.in-Ok.is at c.seek.ensures in
    record { n_value = c.requires.n_value; i_lt_n = (g.0, g.1) }

pub returns-in_default : goal.returns-in_default
returns-in_default c =
    let a = c.args.base.0 + c.args.rel.0 in
    let p : None ≡ place_on c.args.d a = sym (ap reached_said c.in_default.is) ∙ c.place.ensures in
    let h : disk_sectors c.args.x.now ≤ a = omega (arith, place-beyond c.args.d a p, c.requires.d_value) in
    record { result_value = open-past c.args.x.now a h; result_value_2 = (lack-past c.args.x.now a h, tt) }

pub returns-in-Err : goal.returns-in-Err
returns-in-Err c =
    let a = c.args.base.0 + c.args.rel.0 in
    let p : Some c.in-Some.at.0 ≡ place_on c.args.d a = sym (ap reached_said c.in-Some.is) ∙ c.place.ensures in
    let k = place_at c.args.d a c.in-Some.at.0 p in
    let h : a < disk_sectors c.args.x.now = omega (arith, k.1, c.requires.d_value) in
    let g : SpotOf c.args.x.now c.args.n a (Err c.in-Err.field-0) = rw (c.in-Err.is, k.0) at c.seek.ensures in
    let u : (i : ℕ) → c.in-Err.field-0 ≤ i → i < count c.args.x.now → a < lba_at c.args.x.now i = λ i u w. g.2 i u (omega (arith, c.requires.n_value.0)) in
    record { result_value = open-blank c.args.x.now a c.in-Err.field-0 h g.1 u; result_value_2 = (ap Some k.0 ∙ lack-blank c.args.x.now a c.in-Err.field-0 h g.1 u, tt) }

pub returns-in-Ok : goal.returns-in-Ok
returns-in-Ok c =
    let a = c.args.base.0 + c.args.rel.0 in
    let p : Some c.in-Some.at.0 ≡ place_on c.args.d a = sym (ap reached_said c.in-Some.is) ∙ c.place.ensures in
    let k = place_at c.args.d a c.in-Some.at.0 p in
    let h : a < disk_sectors c.args.x.now = omega (arith, k.1, c.requires.d_value) in
    let g : SpotOf c.args.x.now c.args.n a (Ok c.in-Ok.i) = rw (c.in-Ok.is, k.0) at c.seek.ensures in
    let b : c.in-Ok.i < count c.args.x.now = omega (arith, g.0, c.requires.n_value.0) in
    let m = rw k.0 at c.open_record.ensures.result_value_2 in
    record { result_value = c.open_record.ensures.result_value ∙ open-number c.args.x.now a c.in-Ok.i c.requires.n_value.1 h b g.1; result_value_2 = (m.0 ∙ lack-number c.args.x.now a c.in-Ok.i c.requires.n_value.1 h b g.1, m.1) }
