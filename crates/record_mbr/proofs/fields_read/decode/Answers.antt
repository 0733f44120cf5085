use Rattle.record_mbr.proofs.fields_read.decode.Goals as goal

pub returns : goal.returns
returns c = cc
