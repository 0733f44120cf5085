use mathlib.Core.Path.{◌≡◌, ap, ◌∙◌}
use native.Mathlib.Omega.{arith}
use Prim.Native.Nat.{◌<◌}
use mathlib.Core.List.{List}
use lib.ListN.{length, get_or, set}
use Rattle.table.specs.declared.LogicalPartition.{LogicalPartition}
use Rattle.chain.specs.Chain.{Link, first_link}
use Rattle.chain.specs.Walk.{lifted, rebuilt}
use Rattle.chain.proofs.Slots.{rebuilt-long, rebuilt-at, link-on, sofar, sofar-more, sofar-slots}
use Rattle.read_chain.proofs.logicals.attach.Goals as goal

pub loop-j-preserved : goal.loop-j-preserved
loop-j-preserved c =
    let x = c.args.x.now in
    let f = c.args.found.now in
    let k = first_link c.args.extended in
    let j = c.loop-j.j in
    let L = rebuilt x k f in
    let b : j < length f = omega arith in
    let n : length L ≡ length f = rebuilt-long x k f in
    let v = c.lift.ensures ∙ ap (λ (y : Link). lifted x y (get_or f j 0)) c.loop-j.invariant.1 ∙ rebuilt-at x k f j b in (
      ap (λ (z : LogicalPartition). set c.loop-j.ls j z) v
          ∙ ap (λ (z : List LogicalPartition). set z j (get_or L j _)) c.loop-j.invariant.0
          ∙ sofar-more L j (omega arith) (omega (arith, c.requires.found_few.0)),
      c.way_behind-way.ensures ∙ link-on x k f j,
    )

pub returns : goal.returns
returns c =
    let L = rebuilt c.args.x.now (first_link c.args.extended) c.args.found.now in
    let n : length L ≡ length c.args.found.now = rebuilt-long c.args.x.now (first_link c.args.extended) c.args.found.now in
    let e : c.loop-j.j ≡ length L = omega arith in
    c.loop-j.invariant.0 ∙ ap (sofar L) e ∙ sofar-slots L
