use Rattle.std.proofs.Common.{arith, ◌+◌, ◌-◌, ◌<◌, ◌≡◌}
use Rattle.std.specs.Prelude.{Ok}
use native.Mathlib.Nat.{div-mul-le_self}
use Rattle.table_free.specs.Free.{runs_in, Ended}
use Rattle.table_place.proofs.Laws.{last_fits}
use Rattle.table_place.proofs.places.last_by.Goals as goal

pub overflow_add-result : goal.overflow_add-result
overflow_add-result c =
    let x = c.in_ok-found.field-0 in
    let w : c.args.found ≡ Ok x = c.in_ok-found.was in
    let u : (0 < c.args.align) × Ended (runs_in x) = rw w at c.requires.1 in
    let h = last_fits c.args.size (runs_in x) _ c.in-Some.r u.1 c.spot_in.ensures c.in-Some.is in
    omega (arith, h.1)

pub overflow_sub-result : goal.overflow_sub-result
overflow_sub-result c =
    let x = c.in_ok-found.field-0 in
    let w : c.args.found ≡ Ok x = c.in_ok-found.was in
    let u : (0 < c.args.align) × Ended (runs_in x) = rw w at c.requires.1 in
    let h = last_fits c.args.size (runs_in x) _ c.in-Some.r u.1 c.spot_in.ensures c.in-Some.is in
    omega (arith, h.0)

pub overflow_mul-result : goal.overflow_mul-result
overflow_mul-result c =
    let x = c.in_ok-found.field-0 in
    let w : c.args.found ≡ Ok x = c.in_ok-found.was in
    let u : (0 < c.args.align) × Ended (runs_in x) = rw w at c.requires.1 in
    let h = last_fits c.args.size (runs_in x) _ c.in-Some.r u.1 c.spot_in.ensures c.in-Some.is in
    omega (arith, h.0, h.1, div-mul-le_self (c.in-Some.r.start + c.in-Some.r.length - c.args.size) c.args.align)
