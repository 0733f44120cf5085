use native.Mathlib.Omega.{arith}
use mathlib.Core.Path.{refl}
use Rattle.block_write.proofs.parts_out.Parts.{all_start, all-turn, all-put}
use Rattle.block_write.proofs.parts_out.put_slots.Goals as goal

pub loop-i-init : goal.loop-i-init
loop-i-init c = (refl, all_start c.args.d.now c.args.ls.now)

pub loop-i-preserved : goal.loop-i-preserved
loop-i-preserved c =
    (omega (arith, c.loop-i.invariant.0), all-turn c.args.d.now c.loop-i.d _ c.args.ls.now c.loop-i.i c.requires.1 (omega (arith, c.loop-i-test.true, c.requires.1)) c.requires.0 c.loop-i.invariant.1.0 c.loop-i.invariant.1.1 (c.put_into.ensures.b_after, c.put_into.ensures.l_len))

pub returns : goal.returns
returns c = all-put c.args.d.now _ c.args.ls.now c.loop-i.i c.requires.1 (omega (arith, c.loop-i-test.false, c.requires.1)) c.loop-i.invariant.1.0 c.loop-i.invariant.1.1
