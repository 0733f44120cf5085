use Rattle.table_push.specs.Push.{fresh}
use Rattle.table_push.proofs.fresh_logical.Goals as goal

pub returns : goal.returns
unfolding fresh
returns c = rw (← c.requires.0, ← c.requires.1, c.empty.ensures, c.empty-2.ensures, c.empty-3.ensures, c.empty-4.ensures, c.link_sectors.ensures, c.no_link_last.ensures)
