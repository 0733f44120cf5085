use Rattle.block.proofs.Inside.{cylinders-in, heads-in, sectors-in}
use Rattle.block_read.proofs.fields.geometry.Goals as goal

pub returns : goal.returns
returns c =
    rw (cylinders-in c.args.b.now, heads-in c.args.b.now, sectors-in c.args.b.now, c.get16.ensures)
