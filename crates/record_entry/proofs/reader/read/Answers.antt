use Rattle.record_entry.proofs.reader.read.Goals as goal

pub returns : goal.returns
returns c = cc
