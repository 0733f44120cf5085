use Rattle.record_entry.proofs.writer.Parts.{written}
use Rattle.record_entry.proofs.writer.write.Goals as goal

pub returns : goal.returns
returns c =
    written c.args.d.now _ _ _ _ _ _ c.args.at c.args.e c.requires
    c.put8.ensures
    c.write.ensures
    c.put8-2.ensures
    c.write-2.ensures
    c.put32.ensures
    c.put32-2.ensures
