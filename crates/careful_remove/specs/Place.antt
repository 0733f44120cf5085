-- A logical partition by its place. Assumes nothing.
use Rattle.std.specs.Prelude.{ℕ, List, drop}
use Rattle.std.specs.Prelude.{Option, None}
use Rattle.base.specs.Row.{next}
use Rattle.table.specs.declared.LogicalPartition.{LogicalPartition}

-- the one at place i, counted from 0, if there is one
abbrev pub place_in : List LogicalPartition → ℕ → Option LogicalPartition
place_in ls i = next (drop i ls) None
