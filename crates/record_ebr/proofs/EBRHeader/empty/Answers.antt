use Rattle.record_ebr.proofs.EBRHeader.empty.Goals as goal

pub returns : goal.returns
returns c = rw (c.empty.ensures, c.empty-2.ensures, c.empty-3.ensures)
