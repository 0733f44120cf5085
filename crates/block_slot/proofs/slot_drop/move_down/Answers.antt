use Rattle.block_slot.proofs.slot_drop.Down.{pasted}
use Rattle.block_slot.proofs.slot_drop.move_down.Goals as goal

pub returns : goal.returns
returns c = pasted c.args.b.now _ c.args.to c.args.by c.args.n c.requires c.copy_within.ensures.after
