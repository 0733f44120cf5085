-- Removal of a partition by a sector. Assumes nothing.
use Rattle.std.specs.Prelude.{ℕ}
use Rattle.std.specs.Prelude.{Option, None, Some}
use Rattle.base.specs.Said.{Said, gives, refuses, and_then}
use Rattle.table.specs.declared.MBR.{MBR}
use Rattle.table_remove.specs.Less.{without, without_primary}
use Rattle.table_lookup.specs.declared.Kind.{Kind}
use Rattle.table_lookup.specs.declared.Kind.TheVariants.{Nothing, Primary, Logical}
use Rattle.table_lookup.specs.Numbers.{kind_of}
use Rattle.table_lookup.specs.Find.{find_says}

-- the table without what a number names
abbrev pub without_kind : MBR → Kind → MBR
without_kind t Nothing = t
without_kind t (Primary i) = without_primary t i
without_kind t (Logical k) = without t k

-- the table without the partition that was found; none found 15 (rules D8 and D10)
abbrev pub remove_found : MBR → Option ℕ → Said MBR
remove_found t None = refuses 15
remove_found t (Some n) = gives (without_kind t (kind_of n))

-- 6, the search's 7, 15 (rule D8)
unfoldable pub remove_at_says : MBR → ℕ → Said MBR
remove_at_says t s = and_then (find_says t s) (remove_found t)
