use Rattle.block_write.proofs.parts_out.Parts.{entries-written}
use Rattle.block_write.proofs.parts_out.put_entries.Goals as goal

pub returns : goal.returns
returns c = entries-written c.args.d.now _ _ _ _ c.args.h.partition_1 c.args.h.partition_2 c.args.h.partition_3 c.args.h.partition_4 c.requires
    c.put_entry.ensures
    c.put_entry-2.ensures
    c.put_entry-3.ensures
    c.put_entry-4.ensures
