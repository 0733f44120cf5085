use Rattle.chain.specs.Chain.{placed}
use Rattle.read_chain.proofs.logicals.lift.Goals as goal

pub returns : goal.returns
unfolding placed
returns c = rw (c.kept_of.ensures, c.place_of.ensures, c.part_at.ensures, c.record_at.ensures)
