use Rattle.block_slot.proofs.slot_out.Parts.{front-written}
use Rattle.block_slot.proofs.slot_out.put_slot_front.Goals as goal

pub returns : goal.returns
returns c = front-written c.args.d.now _ _ _ _ _ c.args.at c.args.l c.requires
    c.put_entry.ensures
    c.put32.ensures
    c.put_sectors.ensures
    c.put_chs.ensures
    c.put_last.ensures
