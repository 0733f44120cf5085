-- A table that was read, taken apart at one of its logical partitions. Assumes nothing.
use mathlib.Core.Path.{◌≡◌}
use Rattle.std.specs.Prelude.{None, Some}
use mathlib.Core.List.{List, [], ◌∷◌, ◌++◌}
use Prim.Native.Nat.{ℕ, ◌≤◌, ◌<◌}
use native.Mathlib.Omega.{arith}
use lib.ListN.{length}
use Rattle.base.specs.Row.{next, Row}
use Rattle.base.proofs.Row.{row-left, row-right}
use Rattle.chain.proofs.Slots.{holds-few}
use Rattle.record_entry.specs.declared.MBRPartitionEntry.{MBRPartitionEntry}
use Rattle.record_entry.specs.Entry.{end_of}
use Rattle.extract.specs.Disk.{Disk}
use Rattle.table.specs.declared.LogicalPartition.{LogicalPartition}
use Rattle.table.specs.Table.{most}
use Rattle.chain.specs.Facts.{seen, at, body_of, leads, Held, Holds}
use Rattle.sound.specs.Sound.{Contents, extended_entry, end, FirstAt, Sound}
use Rattle.sound.proofs.Good.{Good, Area, area_of, extended-small, sound-first, sound-row}
use Rattle.careful.specs.Demand3.{Whole}
use Rattle.careful.proofs.Places.{Fit, good-fit, fit_of, Over, Under, row-over, row_under}
use Rattle.careful.proofs.Written.{BodyOk, NextOk, seen-ok}
use Rattle.careful.proofs.Shown.{Shows, Heads, holds-held, holds-heads-at}

-- the table `ls ++ l ∷ ms` in the extended entry `e`, held by the disk
pub record Split (d : Disk) (e : MBRPartitionEntry) (D : ℕ) (ls : List LogicalPartition) (l : LogicalPartition) (ms : List LogicalPartition) : Type 0 where
  pub area : Area D e
  pub sys : e.sys < 256
  pub size : d.size ≡ D
  pub first : Heads e (ls ++ l ∷ ms)
  pub goods : Row (Good (end_of e)) ls (Some l)
  pub good : Good (end_of e) l (next ms None)
  pub fit : Fit (end_of e) l (next ms None)
  pub rest : Row (Good (end_of e)) ms None
  pub held : Row (Held (seen d) e.starting_lba) ls (Some l)
  pub here : Held (seen d) e.starting_lba l (next ms None)
  pub tail : Row (Held (seen d) e.starting_lba) ms None
  pub few : length (ls ++ l ∷ ms) ≤ most
  pub low : e.starting_lba ≤ at l
  pub high : end l ≤ end_of e
  pub body : BodyOk (body_of l)
  pub leads_ok : NextOk (leads e.starting_lba (next ms None))

first-low : (e : MBRPartitionEntry) (ls : List LogicalPartition) (l : LogicalPartition) (ms : List LogicalPartition) → FirstAt e.starting_lba (ls ++ l ∷ ms)
    → Row (Fit (end_of e)) (ls ++ l ∷ ms) None → e.starting_lba ≤ at l
first-low e [] l ms f r = omega (arith, f)
first-low e (y ∷ ys) l ms f r =
    (row-right (Over e.starting_lba) (y ∷ ys) (l ∷ ms) None (row-over (end_of e) e.starting_lba y (ys ++ l ∷ ms) None r (omega (arith, f)))).0

pub split : (d : Disk) (t : Contents) (e : MBRPartitionEntry) (ls : List LogicalPartition) (l : LogicalPartition) (ms : List LogicalPartition) → Whole d → Shows d t → Sound t
    → extended_entry t ≡ Some e → t.logicals ≡ ls ++ l ∷ ms → Split d e t.size ls l ms
split d t e ls l ms whole r s x q =
    let f : FirstAt e.starting_lba (ls ++ l ∷ ms) = rw q at (sound-first t e s x) in
    let g : Row (Good (end_of e)) (ls ++ l ∷ ms) None = rw q at (sound-row t e s x) in
    let h : Holds (seen d) (Some e) (ls ++ l ∷ ms) = rw q at (rw x at r.holds) in
    let held : Row (Held (seen d) e.starting_lba) (ls ++ l ∷ ms) None = holds-held (seen d) e (ls ++ l ∷ ms) h in
    let hr : Row (Held (seen d) e.starting_lba) (l ∷ ms) None = row-right (Held (seen d) e.starting_lba) ls (l ∷ ms) None held in
    let gr : Row (Good (end_of e)) (l ∷ ms) None = row-right (Good (end_of e)) ls (l ∷ ms) None g in
    let ok = seen-ok d whole (at l) (body_of l) (leads e.starting_lba (next ms None)) hr.0 in
    let a : Area t.size e = area_of t e s x in
    record {
      area = a;
      sys = extended-small e.sys a.ext;
      size = r.size;
      first = holds-heads-at (seen d) e ls l ms h;
      goods = row-left (Good (end_of e)) ls (l ∷ ms) None g;
      good = gr.0;
      fit = good-fit (end_of e) l (next ms None) gr.0;
      rest = gr.1;
      held = row-left (Held (seen d) e.starting_lba) ls (l ∷ ms) None held;
      here = hr.0;
      tail = hr.1;
      few = holds-few (seen d) (Some e) (ls ++ l ∷ ms) h;
      low = first-low e ls l ms f (fit_of (end_of e) (ls ++ l ∷ ms) None g);
      high = (row-right (Under (end_of e)) ls (l ∷ ms) None (row_under (end_of e) (end_of e) (ls ++ l ∷ ms) None (fit_of (end_of e) (ls ++ l ∷ ms) None g) (omega arith))).0;
      body = ok.1;
      leads_ok = ok.2;
    }
