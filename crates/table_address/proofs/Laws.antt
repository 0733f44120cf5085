-- update_chs, address by address. Assumes nothing.
use mathlib.Core.Path.{◌≡◌, refl}
use Rattle.base.specs.Said.{refuses}
use Rattle.base.specs.Checks.{checked, answer}
use Rattle.table.specs.declared.LogicalPartition.{LogicalPartition}
use Rattle.table_address.specs.declared.Geometry.{Geometry}
use Rattle.table_address.specs.Address.{address_checks, last_checks, link_checks, update_checks, addressed, update_chs}

-- update_chs, address by address
pub update-steps : (g : Geometry) (l : LogicalPartition) → update_chs g l
    ≡ checked (address_checks g l.partition.starting_lba) refuses
    (checked (last_checks g l.partition.starting_lba l.partition.sectors) refuses
    (checked (address_checks g l.absolute_ebr_lba.0) refuses
    (answer (link_checks g l.absolute_ebr_lba.0 l.ebr_sectors) (addressed g l))))
unfolding update_chs update_checks
update-steps g l = refl
