use mathlib.Core.List.{[]}
use Rattle.block_read.proofs.parts_in.Reading.{slots-none, slots-more}
use lib.ListN.{length-set}
use native.Mathlib.Omega.{arith}
use mathlib.Core.Path.{refl, ◌∙◌}
use borrow.Author.Rules.{rules}
use Rattle.block_read.proofs.parts_in.get_slots.Goals as goal

pub loop-i-init : goal.loop-i-init
loop-i-init c = (search rules, (refl, slots-none c.args.b.now []))

pub loop-i-preserved : goal.loop-i-preserved
loop-i-preserved c = (
  search rules,
  (
    length-set c.loop-i.ls c.loop-i.i c.slot_of.result ∙ c.loop-i.invariant.1.0,
    slots-more c.args.b.now c.loop-i.ls c.slot_of.result c.loop-i.i (omega (arith, c.loop-i.invariant.1.0, c.loop-i-test.true)) c.loop-i.invariant.1.1 c.slot_of.ensures,
  ),
)
