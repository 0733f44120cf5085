-- push: one more logical partition behind the others. Assumes nothing.
use Rattle.std.specs.Prelude.{ℕ, ◌+◌, ◌-◌, List, [], ◌∷◌, ◌++◌, Bool, true, false, ltb, length, set}
use Rattle.std.specs.Prelude.{Option, None, Some}
use Rattle.base.specs.Pick.{pick}
use Rattle.base.specs.Said.{Said}
use Rattle.base.specs.Checks.{Check, ◌!◌, checked, answer}
use Rattle.record_chs.specs.Chs.{no_chs}
use Rattle.record_entry.specs.declared.MBRPartitionEntry.{MBRPartitionEntry}
use Rattle.record_entry.specs.Entry.{no_entry}
use Rattle.record_ebr.specs.Ebr.{no_kept}
use Rattle.table.specs.declared.LogicalPartition.{LogicalPartition}
use Rattle.table.specs.declared.MBR.{MBR}
use Rattle.table.specs.Table.{most, extended_in, with_logicals, count_check}
use Rattle.table_address.specs.declared.Geometry.{Geometry}
-- what is asked for: alignment, geometry, type, start and sectors
pub use Rattle.table_push.specs.declared.request.Request.{Request}
use Rattle.table_address.specs.Address.{slot_geometry, by_geometry}
unfoldable pub use Rattle.table_push.specs.Asked.{round_checks, place_checks, end_checks}
pub use Rattle.table_push.specs.Asked.{place_of, size_of, later_than}

-- rules P22 and P33: the new partition without its addresses; only a later one has link sectors and a last link CHS; no code, no mark
unfoldable pub fresh : Bool → Request → LogicalPartition
fresh later q =
    record {
      partition =
          record {
            boot = 0;
            first_chs = no_chs;
            sys = q.sys;
            last_chs = no_chs;
            starting_lba = place_of q + q.align;
            sectors = size_of q - q.align;
          };
      absolute_ebr_lba = record { 0 = place_of q };
      ebr_sectors = pick later (Some (size_of q)) None;
      ebr_first_chs = no_chs;
      ebr_last_chs = pick later (Some no_chs) None;
      kept = no_kept;
    }

-- the new partition: with addresses if the geometry is complete
unfoldable pub new_logical : Bool → Request → LogicalPartition
new_logical later q = by_geometry q.geometry (fresh later q)

-- rule P18: the addresses if the geometry is complete
unfoldable pub geometry_checks : Bool → Request → List Check
geometry_checks later q = slot_geometry q.geometry (fresh later q)

abbrev pub is_some : Option MBRPartitionEntry → Bool
is_some None = false
is_some (Some e) = true

abbrev pub or_none : Option MBRPartitionEntry → MBRPartitionEntry
or_none None = no_entry
or_none (Some e) = e

-- rules P2 to P20: push's refusals in their order, for the extended entry and n logical partitions (rule K8)
unfoldable pub push_checks : Request → Option MBRPartitionEntry → ℕ → List Check
push_checks q o n =
    (8 ! is_some o)
    ∷ round_checks q
    ++ place_checks q (or_none o)
    ++ end_checks (later_than n) q (or_none o)
    ++ geometry_checks (later_than n) q
    ++ (6 ! ltb n most)
    ∷ []

-- the logical partitions after push
unfoldable pub pushed : Request → List LogicalPartition → List LogicalPartition
pushed q ls = ls ++ new_logical (later_than (length ls)) q ∷ []

-- rule G5: the table by value, a count over the capacity is 6 before all
abbrev pub geometry_of : MBR → Geometry
geometry_of t = record { cylinders = t.cylinders; heads = t.heads; sectors = t.sectors }

abbrev pub request_of : MBR → ℕ → ℕ → ℕ → Request
request_of t sys start sectors = record { align = t.align; geometry = geometry_of t; sys = sys; start = start; sectors = sectors }

unfoldable pub table_push_checks : MBR → Request → List Check
table_push_checks t q = count_check t ∷ push_checks q (extended_in t) t.count

-- rule P32
unfoldable pub pushed_to : MBR → Request → MBR
pushed_to t q = with_logicals t (set t.logical_partitions t.count (new_logical (later_than t.count) q)) (t.count + 1)

-- rule P32: what push says, the new partition's number
unfoldable pub push_says : MBR → ℕ → ℕ → ℕ → Said ℕ
push_says t sys start sectors = answer (table_push_checks t (request_of t sys start sectors)) (t.count + 5)

-- rules G2 and P32: the table after push, as given if it is refused
unfoldable pub push_table : MBR → ℕ → ℕ → ℕ → MBR
push_table t sys start sectors = checked (table_push_checks t (request_of t sys start sectors)) (λ k. t) (pushed_to t (request_of t sys start sectors))
