-- Careful push and careful removal on a disk: refusals in their order, else the stores and the table after. Assumes nothing.
use Rattle.std.specs.Prelude.{ℕ, ◌+◌, ◌-◌, Bool, true, false, not, ◌&&◌, List, [], ◌∷◌, ◌++◌, ltb, leb, length}
use Rattle.std.specs.Prelude.{unwrap_or}
use Rattle.base.specs.Said.{Said, and_then}
use Rattle.base.specs.Checks.{Check, ◌!◌, checked, answer}
use Rattle.record_entry.specs.declared.MBRPartitionEntry.{MBRPartitionEntry}
use Rattle.record_entry.specs.Entry.{no_entry, used, extended}
use Rattle.extract.specs.Disk.{Disk, Store}
use Rattle.table.specs.declared.LogicalPartition.{LogicalPartition}
use Rattle.table.specs.declared.MBR.{MBR}
use Rattle.read_table.specs.Read.{Table, read, read_says}
use Rattle.table_address.specs.declared.Geometry.{Geometry}
use Rattle.table_push.specs.declared.request.Request.{Request}
use Rattle.table_push.specs.Push.{place_of, size_of, later_than, new_logical, push_checks, pushed}
use Rattle.sound.specs.Sound.{Contents, extended_entry, area_end, soundb}
use Rattle.careful_stores.specs.Order.{order_at}
use Rattle.careful_stores.specs.Space.{starts_behind, ends_before}
pub use Rattle.careful_stores.specs.Stored.{room_needed}
use Rattle.careful.specs.Stores.{first_in_place, left_out, last_moved, push_stores, remove_store}

-- what is read, but for the alignment, which no disk holds
abbrev pub contents : Table → Contents
contents t = record { width = t.width; size = t.size; header = t.header; logicals = t.logicals }

-- the table with other logical partitions
unfoldable pub relist : Contents → List LogicalPartition → Contents
relist t ls = record { width = t.width; size = t.size; header = t.header; logicals = ls }

-- the extended entry
abbrev pub extended_area : Contents → MBRPartitionEntry
extended_area t = unwrap_or (extended_entry t) no_entry

-- what a careful change yields: stores in their order, and the table after them
pub record Change : Type 0 where
  pub stores : List Store
  pub result : Contents

-- rule K5: a geometry that would be complete but for more than 63 sectors
unfoldable pub too_wide : Geometry → Bool
too_wide g = ltb 0 g.cylinders && leb g.cylinders 1023 && ltb 0 g.heads && ltb 63 g.sectors

-- rules K3 and K5: type 0, extended, or a complete geometry of more than 63 sectors, 23
unfoldable pub ask_checks : Request → List Check
ask_checks q = (23 ! used q.sys) ∷ (23 ! not (extended q.sys)) ∷ (23 ! not (too_wide q.geometry)) ∷ []

-- does none of them fail
abbrev pub askable : Request → Bool
askable q = checked (ask_checks q) (λ _. false) true

-- how many logical partitions stand before the new one
abbrev pub order_of : Request → Contents → ℕ
order_of q t = order_at (place_of q) t.logicals

-- rules K10 and K11: ends by the extended end, for a first one too, 12; starts at or after the end of the one before it, and ends by the EBR of the one behind it, 21 (rule K7)
unfoldable pub space_checks : Request → Contents → List Check
space_checks q t =
    (12 ! leb (place_of q + size_of q) (area_end (extended_entry t)))
    ∷ (21 ! starts_behind (place_of q) t.logicals)
    ∷ (21 ! ends_before (area_end (extended_entry t)) (place_of q) (place_of q + size_of q) t.logicals)
    ∷ []

-- rules K2 to K15: the refusals of a careful push, after reading's, 20, 23, all of push, 12, 21, 19
unfoldable pub push_refusals : ℕ → Request → Contents → List Check
push_refusals room q t =
    (20 ! soundb t)
    ∷ ask_checks q
    ++ push_checks q (extended_entry t) (length t.logicals)
    ++ space_checks q t
    ++ (19 ! leb room_needed room)
    ∷ []

-- its stores; the new partition stands at its place in the order, and the first-place rule holds
unfoldable pub push_change : Request → Contents → Change
push_change q t =
    record {
      stores = push_stores (extended_area t) (place_of q) t.logicals (new_logical (later_than (length t.logicals)) q);
      result = relist t (first_in_place (extended_area t) (last_moved (order_of q t) (pushed q t.logicals)));
    }

-- rules V2 to V6: those of a careful removal, after reading's, 20, 17, 19 (rule V16)
unfoldable pub remove_refusals : ℕ → ℕ → Contents → List Check
remove_refusals room n t =
    (20 ! soundb t) ∷ (17 ! leb 5 n) ∷ (17 ! ltb (n - 5) (length t.logicals)) ∷ (19 ! leb room_needed room) ∷ []

-- its store; the list without that one, and the first-place rule holds (rule V14)
unfoldable pub remove_change : ℕ → Contents → Change
remove_change n t =
    record {
      stores = remove_store (extended_area t) t.logicals (n - 5) ∷ [];
      result = relist t (first_in_place (extended_area t) (left_out t.logicals (n - 5)));
    }

-- a table by value with the request's alignment and geometry, as the crate's push takes it
unfoldable pub as_asked : MBR → Request → MBR
as_asked t q =
    record {
      sector_size = t.sector_size;
      header = t.header;
      logical_partitions = t.logical_partitions;
      count = t.count;
      align = q.align;
      cylinders = q.geometry.cylinders;
      heads = q.geometry.heads;
      sectors = q.geometry.sectors;
      disk_size = t.disk_size;
    }

-- a table under the first-place rule
unfoldable pub in_first_place : Contents → Contents
in_first_place t = relist t (first_in_place (extended_area t) t.logicals)

-- a table whose last logical partition is put behind the first k (rule K31)
unfoldable pub with_last_at : ℕ → Contents → Contents
with_last_at k t = relist t (last_moved k t.logicals)

-- a careful change of what was read: reading's refusals, then the listed ones
abbrev pub changing : (Contents → List Check) → (Contents → Change) → Said Table → Said Change
changing refusals change s = and_then s (λ t. answer (refusals (contents t)) (change (contents t)))

-- careful push and careful removal on a disk, with so much room lent for the stores
unfoldable pub careful_push : Disk → ℕ → Request → Said Change
careful_push d room q = changing (push_refusals room q) (push_change q) (read d)

unfoldable pub careful_remove : Disk → ℕ → ℕ → Said Change
careful_remove d room n = changing (remove_refusals room n) (remove_change n) (read d)

-- and on an extract (rule K1)
unfoldable pub careful_push_says : List ℕ → ℕ → Request → Said Change
careful_push_says x room q = changing (push_refusals room q) (push_change q) (read_says x)

-- rules V1, V14 and Z73
unfoldable pub careful_remove_says : List ℕ → ℕ → ℕ → Said Change
careful_remove_says x room n = changing (remove_refusals room n) (remove_change n) (read_says x)
