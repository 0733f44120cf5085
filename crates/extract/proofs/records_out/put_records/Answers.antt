use Rattle.extract.proofs.header_out.Written.{records-written}
use Rattle.extract.proofs.records_out.put_records.Goals as goal

pub returns : goal.returns
returns c =
    records-written c.args.out.now _ _ _ c.args.x.now c.args.sector.now c.args.at c.args.n c.args.p c.args.q c.requires.0 c.requires.1 c.requires.3
    c.copy_in.ensures c.copy_in-2.ensures c.copy_in-3.ensures
