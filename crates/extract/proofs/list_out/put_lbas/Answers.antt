use Rattle.extract.proofs.header_out.Written.{lbas-written}
use Rattle.extract.proofs.list_out.put_lbas.Goals as goal

pub returns : goal.returns
returns c =
    lbas-written c.args.out.now _ _ _ c.args.x.now c.args.n c.args.p c.args.q c.args.lba c.requires.0 c.requires.1
    c.copy_in.ensures c.put32.ensures c.copy_in-2.ensures
