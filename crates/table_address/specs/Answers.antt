-- What an address's answer says in the numbers of docs/RULES.md, and four addresses one after the other. Assumes nothing.
use Rattle.std.specs.Prelude.{ℕ, Option}
use Rattle.base.specs.Said.{Said, gives, and_then}
use Rattle.record_chs.specs.declared.CHS.{CHS}
use Rattle.table.specs.declared.LogicalPartition.{LogicalPartition}
use Rattle.table_address.specs.declared.Geometry.{Geometry}
use Rattle.table_address.specs.Address.{with_addresses}

abbrev pub geometry_in : ℕ → ℕ → ℕ → Geometry
geometry_in c h s = record { cylinders = c; heads = h; sectors = s }

-- four addresses one after the other
abbrev pub four_addresses : LogicalPartition → Said CHS → Said CHS → Said CHS → Said (Option CHS) → Said LogicalPartition
four_addresses l first last link end =
    and_then first (λ a. and_then last (λ b. and_then link (λ c. and_then end (λ d. gives (with_addresses l a b c d)))))
