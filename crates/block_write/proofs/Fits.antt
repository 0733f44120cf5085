-- The numbers of a table by value fit a block's fields. Assumes nothing.
use Rattle.record_chs.specs.declared.CHS.{CHS}
use Rattle.std.specs.Prelude.{ℕ}
use Rattle.std.specs.Prelude.{Option, Some, None}
use mathlib.Core.List.{List, [], ◌∷◌}
use native.Mathlib.Omega.{arith}
use borrow.Author.Rules.{rules}
use mir.Val.{Val}
use denote.Array.{each}
use denote.Shadow.{shadow}
use denote.Struct.Field.{Field}
use denote.Builtin.{u32}
use Rattle.record_entry.specs.contracts.MBRPartitionEntry.{the_field as entryField}
use Rattle.record_mbr.specs.contracts.MBRHeader.{the_field as headerField}
use Rattle.std.specs.contracts.option.Option.{the_field as optionField}
use Rattle.record_chs.specs.contracts.CHS.{the_row as chsRow}
use Rattle.table.specs.contracts.LogicalPartition.{the_field as slotField, the_row as slotRow}
use Rattle.record_entry.specs.declared.MBRPartitionEntry.{MBRPartitionEntry}
use Rattle.record_mbr.specs.declared.MBRHeader.{MBRHeader}
use Rattle.table.specs.declared.LogicalPartition.{LogicalPartition}
use Rattle.record_mbr.specs.Fits.{EntryFits, HeaderFits}
use Rattle.block.specs.Fits.{SectorsFit, LastFits, SlotFits, SlotsFit}

-- what a value of a type is known by
abbrev pub Known : (F : Field) → F.Value → List Val → Type 0
Known F v us = shadow (F.row.own_val (F.into v) us)

pub entry-fits : (e : MBRPartitionEntry) (us : List Val) → Known entryField e us → EntryFits e
entry-fits e us g = record { first = omega arith; last = omega arith; start = omega arith; sectors = omega arith }

sectors-fit : (m : Option ℕ) (us : List Val) → Known (optionField u32) m us → SectorsFit m
sectors-fit None us g = tt
sectors-fit (Some v) us g = omega arith

last_fits : (m : Option CHS) (us : List Val) → Known (optionField chsRow) m us → LastFits m
last_fits None us g = tt
last_fits (Some c) us g = omega arith

pub slot-fits : (l : LogicalPartition) (us : List Val) → Known slotField l us → SlotFits l
slot-fits l us g = record {
  partition = entry-fits l.partition _ g.1.1.0;
  place = omega (arith, g.1.1.1.0);
  sectors = sectors-fit l.ebr_sectors _ g.1.1.1.1.0;
  first = omega (arith, g.1.1.1.1.1.0);
  last = last_fits l.ebr_last_chs _ g.1.1.1.1.1.1.0;
  kept = record {
    code = search rules;
    mark = search rules;
  };
}

pub slots-fit : (ls : List LogicalPartition) (us : List Val) → shadow (each slotRow.Denot slotRow.own_val ls us) → SlotsFit ls
slots-fit [] us g = tt
slots-fit (l ∷ ls) [] g = absurd g
slots-fit (l ∷ ls) (u ∷ us) g = (slot-fits l (u ∷ []) g.0, slots-fit ls us g.1)

pub header-fits : (h : MBRHeader) (us : List Val) → Known headerField h us → HeaderFits h
header-fits h us g = record {
  code = search rules;
  disk = search rules;
  mark = search rules;
  one = entry-fits h.partition_1 _ g.1.1.1.1.1.0;
  two = entry-fits h.partition_2 _ g.1.1.1.1.1.1.0;
  three = entry-fits h.partition_3 _ g.1.1.1.1.1.1.1.0;
  four = entry-fits h.partition_4 _ g.1.1.1.1.1.1.1.1.0;
  sign = search rules;
}
