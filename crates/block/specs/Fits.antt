-- Tables whose numbers fit a block's fields, as those of a table by value do but for its count of 64 bits. Assumes nothing.
use Rattle.record_chs.specs.declared.CHS.{CHS}
use Rattle.std.specs.Prelude.{ℕ}
use Rattle.std.specs.Prelude.{◌<◌, ◌^◌, List, [], ◌∷◌, ◌≡◌, length, Option, Some, None}
use Rattle.record_ebr.specs.declared.Kept.{Kept}
use Rattle.record_ebr.specs.Ebr.{mark_length}
use Rattle.record_mbr.specs.Fits.{ChsFits, EntryFits, HeaderFits}
use Rattle.table.specs.declared.LogicalPartition.{LogicalPartition}
use Rattle.table.specs.declared.MBR.{MBR}
use Rattle.table.specs.Table.{most}

abbrev pub SectorsFit : Option ℕ → Type 0
SectorsFit None = Unit {0}
SectorsFit (Some v) = v < 2 ^ 32

abbrev pub LastFits : Option CHS → Type 0
LastFits None = Unit {0}
LastFits (Some c) = ChsFits c

-- code and mark are as long as their arrays
pub record KeptLong (k : Kept) : Type 0 where
  pub code : length k.bootstrap_code ≡ 446
  pub mark : length k.mark ≡ mark_length

pub record SlotFits (l : LogicalPartition) : Type 0 where
  pub partition : EntryFits l.partition
  pub place : l.absolute_ebr_lba.0 < 2 ^ 32
  pub sectors : SectorsFit l.ebr_sectors
  pub first : ChsFits l.ebr_first_chs
  pub last : LastFits l.ebr_last_chs
  pub kept : KeptLong l.kept

abbrev pub SlotsFit : List LogicalPartition → Type 0
SlotsFit [] = Unit {0}
SlotsFit (l ∷ ls) = SlotFits l × SlotsFit ls

pub record TableFits (t : MBR) : Type 0 where
  pub size : t.sector_size < 2 ^ 32
  pub header : HeaderFits t.header
  pub long : length t.logical_partitions ≡ most
  pub slots : SlotsFit t.logical_partitions
  pub count : t.count < 2 ^ 32
  pub align : t.align < 2 ^ 32
  pub cylinders : t.cylinders < 2 ^ 16
  pub disk : t.disk_size < 2 ^ 32
