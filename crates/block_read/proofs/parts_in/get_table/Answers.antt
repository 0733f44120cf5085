use Rattle.block.specs.Block.{table_in}
use Rattle.block_read.proofs.parts_in.get_table.Goals as goal

pub returns : goal.returns
unfolding table_in
returns c = cc c.header_of.ensures
