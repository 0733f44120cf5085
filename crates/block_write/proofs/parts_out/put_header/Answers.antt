use Rattle.block_write.proofs.parts_out.Parts.{header-written}
use Rattle.block_write.proofs.parts_out.put_header.Goals as goal

pub returns : goal.returns
returns c =
    header-written c.args.d.now _ _ _ c.args.h c.requires
    c.put_code.ensures
    c.put_entries.ensures
    c.put_sign.ensures
