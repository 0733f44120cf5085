use Rattle.record_ebr.proofs.kept_of.Goals as goal

pub returns : goal.returns
returns c = c.kept_at.ensures
