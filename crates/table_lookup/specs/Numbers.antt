-- Partition numbers: none for 0, a primary for 1 to 4, a logical partition for 5 and up. Assumes nothing.
use Rattle.std.specs.Prelude.{ℕ, zero, suc, ◌+◌, ◌-◌, List, [], ◌∷◌, eqb, ltb, get_or}
use Rattle.std.specs.Prelude.{Option, None, Some}
use Rattle.base.specs.Pick.{pick}
use Rattle.base.specs.Said.{Said}
use Rattle.base.specs.Checks.{answer}
use Rattle.record_entry.specs.declared.MBRPartitionEntry.{MBRPartitionEntry}
use Rattle.record_mbr.specs.Mbr.{primary_of}
use Rattle.table.specs.declared.MBR.{MBR}
use Rattle.table.specs.Table.{count_check, no_logical}
use Rattle.table_lookup.specs.declared.Kind.{Kind}
use Rattle.table_lookup.specs.declared.Kind.TheVariants.{Nothing as NoKind, Primary, Logical}

-- the decision over the numbers (rule L1)
abbrev pub kind_of : ℕ → Kind
kind_of i = pick (eqb i 0) NoKind (pick (ltb i 5) (Primary i) (Logical (i - 5)))

-- the entry of logical partition number k, counted from 0 (rule L1)
abbrev pub logical_of : MBR → ℕ → Option MBRPartitionEntry
logical_of t k = pick (ltb k t.count) (Some (get_or t.logical_partitions k no_logical).partition) None

abbrev pub of_kind : MBR → Kind → Option MBRPartitionEntry
of_kind t NoKind = None
of_kind t (Primary i) = primary_of t.header i
of_kind t (Logical k) = logical_of t k

-- the entry of a number, or none
abbrev pub entry_of : MBR → ℕ → Option MBRPartitionEntry
entry_of t i = of_kind t (kind_of i)

-- the entry of a number, or 6 (rule G5)
abbrev pub get_says : MBR → ℕ → Said (Option MBRPartitionEntry)
get_says t i = answer (count_check t ∷ []) (entry_of t i)

-- primaries and logical partitions together (rules L5 and Z52)
abbrev pub len_says : MBR → Said ℕ
len_says t = answer (count_check t ∷ []) (4 + t.count)

-- element number k of a list, counted from 0
unfoldable pub nth : {A : Type 0} → List A → ℕ → Option A
nth [] k = None
nth (x ∷ xs) zero = Some x
nth (x ∷ xs) (suc k) = nth xs k
