use Rattle.table_free.proofs.Laws.{free-usable}
use Rattle.table_place.proofs.places.find_last_place.Goals as goal

pub last_by-requires : goal.last_by-requires
last_by-requires c = (c.find_free_sectors.ensures.few, rw (← c.find_free_sectors.ensures.said.0) at (free-usable c.args.t))
