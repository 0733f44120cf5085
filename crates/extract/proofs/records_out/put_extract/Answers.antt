use Rattle.extract.proofs.header_out.Written.{all-written}
use Rattle.extract.proofs.records_out.put_extract.Goals as goal

pub returns : goal.returns
returns c =
    all-written c.args.out.now _ _ _ c.args.x.now c.args.sector.now c.args.e c.args.p c.args.q c.args.lba c.requires.0 c.requires.3
    c.put_header.ensures c.put_lbas.ensures c.put_records.ensures
