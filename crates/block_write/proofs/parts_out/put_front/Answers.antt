use Rattle.block_write.proofs.parts_out.Parts.{numbers-written}
use Rattle.block_write.proofs.parts_out.put_front.Goals as goal

pub returns : goal.returns
returns c = numbers-written c.args.d.now _ _ _ _ _ _ _ c.args.t.now.sector_size c.args.t.now.disk_size c.args.t.now.align c.args.t.now.count c.args.t.now.cylinders c.args.t.now.heads c.args.t.now.sectors c.requires.0
    c.put32.ensures
    c.put32-2.ensures
    c.put32-3.ensures
    c.put32-4.ensures
    c.put16.ensures
    c.put8.ensures
    c.put8-2.ensures
