use Rattle.block_slot.proofs.slot_out.Parts.{chs-written}
use Rattle.block_slot.proofs.slot_out.put_chs.Goals as goal

pub returns : goal.returns
returns c = chs-written c.args.d.now _ _ _ c.args.at c.args.c c.requires c.put16.ensures c.put8.ensures c.put8-2.ensures
