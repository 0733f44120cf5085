use native.Mathlib.Omega.{arith}
use Rattle.read_listing.proofs.text.Text.{length-one, length_more, decimal-one, digit-behind}
use Rattle.read_listing.proofs.text.+put_number.Goals as goal

pub put8-requires : goal.put8-requires
put8-requires t c =
    let e = length-one c.args.v c.if-v-lt10.true in
    omega (arith, c.requires)

pub returns-then-v-lt10 : goal.returns-then-v-lt10
returns-then-v-lt10 t c =
    let h = c.if-v-lt10.true in
    (rw (length-one c.args.v h), rw (decimal-one c.args.v h) c.put8.ensures)

pub put_number-next-requires : goal.put_number-next-requires
put_number-next-requires t c =
    let e = length_more c.args.v c.if-v-lt10.false in
    (omega arith, omega (arith, c.requires))

pub put8-requires-2 : goal.put8-requires-2
put8-requires-2 t c =
    let e = length_more c.args.v c.if-v-lt10.false in
    omega (arith, c.requires, c.put_number-next.ensures.0, c.put_number-next.auto.d)

pub overflow_add-result-2 : goal.overflow_add-result-2
overflow_add-result-2 t c =
    let e = length_more c.args.v c.if-v-lt10.false in
    omega (arith, c.requires, c.put_number-next.ensures.0, c.well_formed)

pub returns : goal.returns
returns t c =
    let h = c.if-v-lt10.false in
    let p = c.put_number-next.ensures in
    let e = length_more c.args.v h in
    let w = rw p.0 at c.put8-2.ensures in
    (omega arith, digit-behind c.args.d.now _ _ c.args.at c.args.v h c.requires p.1 w)
