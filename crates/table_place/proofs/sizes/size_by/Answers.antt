use Rattle.std.proofs.Common.{rules, arith, length, ◌≡◌, ◌≤◌, ◌<◌}
use Rattle.std.specs.Prelude.{Ok}
use Rattle.table_free.specs.Free.{most_runs}
use Rattle.table_place.proofs.Laws.{size_none, size-some}
use Rattle.table_place.proofs.sizes.size_by.Goals as goal

pub returns-then-x-eq0 : goal.returns-then-x-eq0
returns-then-x-eq0 c =
    let w : c.args.found ≡ Ok c.in_ok-x.x = c.in_ok-x.was in
    rw w (size_none c.in_ok-x.x c.args.align c.if-x-eq0.true)

pub returns : goal.returns
returns c =
    let x = c.in_ok-x.x in
    let w : c.args.found ≡ Ok x = c.in_ok-x.was in
    let few : (x.count ≤ most_runs) × (0 < c.args.align) = rw w at c.requires in
    let n : length x.at ≡ most_runs = search rules in
    rw w (size-some x c.args.align c.largest_in.result (omega (arith, n, few.0)) c.if-x-eq0.false c.largest_in.ensures)
