use Rattle.record_mbr.specs.Mbr.{new_header}
use Rattle.record_mbr.proofs.MBRHeader.new.Goals as goal

pub returns : goal.returns
unfolding new_header
returns c = rw (c.empty.ensures, c.empty-2.ensures, c.empty-3.ensures, c.empty-4.ensures)
