-- Removal of a partition from a block where it lies. Assumes nothing.
use Rattle.std.specs.Prelude.{ℕ, ◌-◌, List}
use Rattle.base.specs.Said.{Said}
use Rattle.base.specs.Checks.{answer}
use Rattle.table.specs.declared.MBR.{MBR}
use Rattle.block_slot.specs.Changed.{without_slot, without_entry}
use Rattle.table_remove.specs.Remove.{remove_checks}
use Rattle.table_lookup.specs.declared.Kind.{Kind}
use Rattle.table_lookup.specs.declared.Kind.TheVariants.{Nothing, Primary, Logical}
use Rattle.table_lookup.specs.Numbers.{kind_of}

-- removal of a logical partition by its number (rule Z39)
abbrev pub removed_on : List ℕ → ℕ → MBR → Said (List ℕ)
removed_on b n t = answer (remove_checks t n) (without_slot b t.count (n - 5))

-- the block of a table with so many logical partitions, without what a number names
abbrev pub without_kind_on : List ℕ → ℕ → Kind → List ℕ
without_kind_on b count Nothing = b
without_kind_on b count (Primary i) = without_entry b i
without_kind_on b count (Logical k) = without_slot b count k

-- the block without partition number n
abbrev pub without_number : List ℕ → ℕ → ℕ → List ℕ
without_number b count n = without_kind_on b count (kind_of n)
