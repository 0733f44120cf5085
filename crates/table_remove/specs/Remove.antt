-- Removal of a logical partition by number. Assumes nothing.
use Rattle.std.specs.Prelude.{ℕ, ◌-◌, List, [], ◌∷◌, ltb, leb, get_or}
use Rattle.base.specs.Checks.{Check, ◌!◌, checked}
use Rattle.table.specs.declared.LogicalPartition.{LogicalPartition}
use Rattle.table.specs.declared.MBR.{MBR}
use Rattle.table.specs.Table.{no_logical, empty_slot, count_check}
pub use Rattle.table_remove.specs.Less.{without}

-- 6; a number below 5 or absent 17 (rules G5 and D1)
abbrev pub remove_checks : MBR → ℕ → List Check
remove_checks t n = count_check t ∷ (17 ! leb 5 n) ∷ (17 ! ltb (n - 5) t.count) ∷ []

-- the table after; if refused the given table (rule D4)
abbrev pub removed_table : MBR → ℕ → MBR
removed_table t n = checked (remove_checks t n) (λ _. t) (without t (n - 5))

-- the partition that was removed; if refused an empty one (rule D4)
abbrev pub removed_partition : MBR → ℕ → LogicalPartition
removed_partition t n = checked (remove_checks t n) (λ _. empty_slot) (get_or t.logical_partitions (n - 5) no_logical)
