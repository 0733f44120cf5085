-- The facts that reading a disk amounts to; and the sectors that reading looks at. Assumes nothing.
use Rattle.std.specs.Prelude.{ℕ, zero, suc, ◌+◌, List, [], ◌∷◌, ◌++◌, ◌≡◌, ltb}
use Rattle.std.specs.Prelude.{Option, None, Some}
use Rattle.base.specs.Pick.{pick}
use Rattle.base.specs.Said.{Said, gives, refuses}
use Rattle.record_entry.specs.declared.MBRPartitionEntry.{MBRPartitionEntry}
use Rattle.record_ebr.specs.declared.EBRHeader.{EBRHeader}
use Rattle.record_mbr.specs.Mbr.{primaries, extended_of}
use Rattle.extract.specs.Disk.{Disk}
use Rattle.table.specs.Table.{most, parts}
use Rattle.chain.specs.Chain.{view, by_link, follows_in}
use Rattle.chain.specs.Facts.{seen, Holds}
use Rattle.read_align.specs.Align.{used_starts, alignment}
use Rattle.read_table.specs.Read.{Table}
use Rattle.read_header.specs.Header.{header_on}

-- the disk reads as this table
pub record Reads (d : Disk) (t : Table) : Type 0 where
  pub width : d.width ≡ t.width
  pub size : d.size ≡ t.size
  pub header : header_on d ≡ gives t.header
  pub holds : Holds (seen d) (extended_of (primaries t.header)) t.logicals
  pub align : alignment (used_starts (primaries t.header ++ parts t.logicals)) ≡ gives t.align

-- what a value leads to; nothing if it is refused
abbrev pub if_given : {A : Type 0} → Said A → (A → List ℕ) → List ℕ
if_given (gives a) f = f a
if_given (refuses k) f = []

-- a sector is looked at if it is on the disk, and then what it leads to
abbrev pub looking : {A : Type 0} → Disk → ℕ → Said A → (A → List ℕ) → List ℕ
looking d a s f = pick (ltb a d.size) (a ∷ if_given s f) []

-- the sectors that reading looks at behind the EBR h at X + rel, in its order; m is the number of EBRs still allowed, and with none allowed the decision refuses
unfoldable pub behind : Disk → ℕ → ℕ → ℕ → EBRHeader → List ℕ
behind d X zero rel h = []
behind d X (suc m) rel h = if_given (follows_in (suc m) X rel h) (by_link [] (λ r. looking d (X + r) (view d (X + r)) (behind d X m r)))

-- those of the chain of an extended entry
unfoldable pub chain_looks : Disk → Option MBRPartitionEntry → List ℕ
chain_looks d None = []
chain_looks d (Some e) = looking d e.starting_lba (view d e.starting_lba) (behind d e.starting_lba most 0)

-- the sectors that reading looks at, in its order (rule R29)
unfoldable pub looked : Disk → List ℕ
looked d = looking d 0 (header_on d) (λ h. chain_looks d (extended_of (primaries h)))

-- two disks hold the same in these sectors
abbrev pub Agree : Disk → Disk → List ℕ → Type 0
Agree d e [] = Unit {0}
Agree d e (a ∷ ls) = (d.sector a ≡ e.sector a) × Agree d e ls
