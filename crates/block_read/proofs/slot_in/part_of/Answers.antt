use Rattle.block_read.proofs.slot_in.Reading.{part-is}
use Rattle.block_read.proofs.slot_in.part_of.Goals as goal

pub returns : goal.returns
returns c = part-is c.args.b.now c.args.at c.args.n c.requires
