use Rattle.record_mbr.proofs.fields_written.Parts.{back-written}
use Rattle.record_mbr.proofs.fields_written.write_back.Goals as goal

pub returns : goal.returns
returns c =
    back-written c.args.d.now _ _ _ _ _ c.args.h c.requires
    c.write.ensures
    c.write-2.ensures
    c.write-3.ensures
    c.write-4.ensures
    c.copy_in.ensures
