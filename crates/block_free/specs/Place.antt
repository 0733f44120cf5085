-- The place that is asked for. Assumes nothing.
use Rattle.std.specs.Prelude.{ℕ}
use Rattle.std.specs.Prelude.{Option}
use Rattle.base.specs.Said.{Said}
use Rattle.table.specs.declared.MBR.{MBR}
use Rattle.table_place.specs.Place.{first_place, last_place, optimal_place}
use Rattle.block_free.specs.declared.places.Which.{Which}
use Rattle.block_free.specs.declared.places.Which.TheVariants.{First, Last, Optimal}

-- the place that is asked for (rule Z60)
abbrev pub place_by : Which → MBR → ℕ → Said (Option ℕ)
place_by First t size = first_place t size
place_by Last t size = last_place t size
place_by Optimal t size = optimal_place t size
