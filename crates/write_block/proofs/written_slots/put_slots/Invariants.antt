use lib.ListN.{take}
use mathlib.Core.Path.{◌≡◌}
use Rattle.block.specs.Block.{slots_put, table_in}
use Rattle.block.specs.Fits.{SlotsFit}
use Rattle.write_rules.specs.AsWritten.{as_written_in}
use Rattle.write_block.proofs.written_slots.put_slots.Given as goal

abbrev pub invariant-loop-i : goal.invariant-loop-i
invariant-loop-i l = record {
  put : l.b ≡ slots_put l.initial.b (take l.i (as_written_in (table_in l.initial.b) l.x));
  fit : SlotsFit (take l.i (as_written_in (table_in l.initial.b) l.x));
}
