-- Removal of the partition at a sector from a block where it lies. Assumes nothing.
use Rattle.std.specs.Prelude.{ℕ, List}
use Rattle.std.specs.Prelude.{Option, None, Some}
use Rattle.base.specs.Said.{Said, gives, refuses, and_then}
use Rattle.table.specs.declared.MBR.{MBR}
use Rattle.table_lookup.specs.Find.{find_says}
use Rattle.block_remove.specs.ByNumberRemoved.{without_number}

-- none found 15 (rule Z39)
abbrev pub found_on : List ℕ → ℕ → Option ℕ → Said (List ℕ)
found_on b count None = refuses 15
found_on b count (Some n) = gives (without_number b count n)

-- removal of the partition that holds a sector (rule Z39)
abbrev pub removed_at_on : List ℕ → ℕ → MBR → Said (List ℕ)
removed_at_on b s t = and_then (find_says t s) (found_on b t.count)
