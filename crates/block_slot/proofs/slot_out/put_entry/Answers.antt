use Rattle.block_slot.proofs.slot_out.Parts.{entry-written}
use Rattle.block_slot.proofs.slot_out.put_entry.Goals as goal

pub returns : goal.returns
returns c = entry-written c.args.d.now _ _ _ _ _ _ c.args.at c.args.e c.requires
    c.put8.ensures
    c.put_chs.ensures
    c.put8-2.ensures
    c.put_chs-2.ensures
    c.put32.ensures
    c.put32-2.ensures
