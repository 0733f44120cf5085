-- The four addresses of a logical partition: update_chs, and when a push computes them. Assumes nothing.
use Rattle.std.specs.Prelude.{ℕ, ◌+◌, ◌-◌, ◌^◌, List, [], ◌∷◌, ◌++◌, Bool, ◌&&◌, ltb, leb, Option, Some, None}
use Rattle.base.specs.Pick.{pick}
use Rattle.base.specs.Said.{Said}
use Rattle.base.specs.Checks.{Check, ◌!◌, answer}
use Rattle.record_chs.specs.declared.CHS.{CHS}
use Rattle.record_chs.specs.Chs.{address_of, exact_checks}
use Rattle.table.specs.declared.LogicalPartition.{LogicalPartition}
use Rattle.table_address.specs.declared.Geometry.{Geometry}

-- rule U12: cylinders 1 to 1,023, heads at least 1, sectors 1 to 63
unfoldable pub complete : Geometry → Bool
complete g = ltb 0 g.cylinders && leb g.cylinders 1023 && ltb 0 g.heads && ltb 0 g.sectors && leb g.sectors 63

-- a number that fits a u32
abbrev pub fits : ℕ → Bool
fits n = ltb n (2 ^ 32)

-- the address of a sector
abbrev pub address_in : Geometry → ℕ → CHS
address_in g a = address_of a g.heads g.sectors

-- its refusals, those of from_lba_exact: 7, 13, 14
abbrev pub address_checks : Geometry → ℕ → List Check
address_checks g a = exact_checks a g.cylinders g.heads g.sectors

-- rules U1 and U9: those of the last of n sectors from a on, 7 for the sum, and where minus one leaves it below 0
abbrev pub last_checks : Geometry → ℕ → ℕ → List Check
last_checks g a n = (7 ! fits (a + n)) ∷ (7 ! ltb 0 (a + n)) ∷ address_checks g (a + n - 1)

-- those of a link's last sector, if there is a link
abbrev pub link_checks : Geometry → ℕ → Option ℕ → List Check
link_checks g a None = []
link_checks g a (Some n) = last_checks g a n

-- rule U9: the partition's first and last sector, the EBR, the link's last sector
unfoldable pub update_checks : Geometry → LogicalPartition → List Check
update_checks g l =
    address_checks g l.partition.starting_lba
    ++ last_checks g l.partition.starting_lba l.partition.sectors
    ++ address_checks g l.absolute_ebr_lba.0
    ++ link_checks g l.absolute_ebr_lba.0 l.ebr_sectors

-- rule U1
abbrev pub link_address : Geometry → ℕ → Option ℕ → Option CHS
link_address g a None = None
link_address g a (Some n) = Some (address_in g (a + n - 1))

-- the partition with other addresses
abbrev pub with_addresses : LogicalPartition → CHS → CHS → CHS → Option CHS → LogicalPartition
with_addresses l a b c d =
    record {
      partition =
          record {
            boot = l.partition.boot;
            first_chs = a;
            sys = l.partition.sys;
            last_chs = b;
            starting_lba = l.partition.starting_lba;
            sectors = l.partition.sectors;
          };
      absolute_ebr_lba = l.absolute_ebr_lba;
      ebr_sectors = l.ebr_sectors;
      ebr_first_chs = c;
      ebr_last_chs = d;
      kept = l.kept;
    }

-- rule U1: the partition with its four addresses, and nothing else altered
unfoldable pub addressed : Geometry → LogicalPartition → LogicalPartition
addressed g l =
    with_addresses l
    (address_in g l.partition.starting_lba)
    (address_in g (l.partition.starting_lba + l.partition.sectors - 1))
    (address_in g l.absolute_ebr_lba.0)
    (link_address g l.absolute_ebr_lba.0 l.ebr_sectors)

-- rules U1 and U9: update_chs (rule U1)
unfoldable pub update_chs : Geometry → LogicalPartition → Said LogicalPartition
update_chs g l = answer (update_checks g l) (addressed g l)

-- where the geometry is complete: the refusals of the four addresses, and the partition with them; else none, and as it is
abbrev pub slot_geometry : Geometry → LogicalPartition → List Check
slot_geometry g l = pick (complete g) (update_checks g l) []

abbrev pub by_geometry : Geometry → LogicalPartition → LogicalPartition
by_geometry g l = pick (complete g) (addressed g l) l
