-- What a careful change answers; and its refusals in the parts in which the code goes through them. Assumes nothing.
use Rattle.std.specs.Prelude.{ℕ, ◌+◌, List, [], ◌∷◌, ◌++◌, leb}
use Rattle.std.specs.Prelude.{Some}
use Rattle.base.specs.Checks.{Check, ◌!◌}
use Rattle.record_entry.specs.declared.MBRPartitionEntry.{MBRPartitionEntry}
use Rattle.record_entry.specs.Entry.{end_of}
use Rattle.table.specs.declared.LogicalPartition.{LogicalPartition}
use Rattle.table_push.specs.declared.request.Request.{Request}
use Rattle.table_push.specs.Push.{place_of, size_of, push_checks}
use Rattle.careful.specs.Careful.{room_needed}
use Rattle.careful_stores.specs.Space.{starts_behind, ends_before}
pub use Rattle.careful_stores.specs.Behind.{Tells}

-- 12, 21 and 19 of a push among these in the extended entry e
abbrev pub space_among : ℕ → Request → MBRPartitionEntry → List LogicalPartition → List Check
space_among room q e ls =
    (12 ! leb (place_of q + size_of q) (end_of e))
    ∷ (21 ! starts_behind (place_of q) ls)
    ∷ (21 ! ends_before (end_of e) (place_of q) (place_of q + size_of q) ls)
    ∷ (19 ! leb room_needed room)
    ∷ []

-- all refusals of a push among these, n of them, from push's on
abbrev pub checks_among : ℕ → Request → MBRPartitionEntry → ℕ → List LogicalPartition → List Check
checks_among room q e n ls = push_checks q (Some e) n ++ space_among room q e ls
