use Rattle.extract.proofs.header_out.Written.{header-written}
use Rattle.extract.proofs.header_out.put_header.Goals as goal

pub returns : goal.returns
returns c =
    header-written c.args.out.now _ _ _ _ _ _ c.args.size c.args.disk c.args.n c.requires.1
    c.put32.ensures c.put32-2.ensures c.put32-3.ensures c.put32-4.ensures c.put32-5.ensures c.put32-6.ensures
