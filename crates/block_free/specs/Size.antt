-- The maximum size that is asked for. Assumes nothing.
use Rattle.std.specs.Prelude.{ℕ}
use Rattle.base.specs.Said.{Said}
use Rattle.table.specs.declared.MBR.{MBR}
use Rattle.table_place.specs.Place.{maximum_size, maximum_for}
use Rattle.block_free.specs.declared.sizes.Whose.{Whose}
use Rattle.block_free.specs.declared.sizes.Whose.TheVariants.{New, Number}

-- the maximum size that is asked for (rule Z60)
abbrev pub size_for : Whose → MBR → Said ℕ
size_for New t = maximum_size t
size_for (Number i) t = maximum_for t i
