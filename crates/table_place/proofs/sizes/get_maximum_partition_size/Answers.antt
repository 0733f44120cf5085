use Rattle.table_free.proofs.Laws.{free-usable}
use Rattle.table_place.proofs.Laws.{few-usable}
use Rattle.table_place.proofs.sizes.get_maximum_partition_size.Goals as goal

pub size_by-requires : goal.size_by-requires
size_by-requires c =
    few-usable c.find_free_sectors.result c.args.t.align c.find_free_sectors.ensures.few (rw (← c.find_free_sectors.ensures.said.0) at (free-usable c.args.t))
