use Rattle.block.specs.Block.{slots_part, slots_put, slot_length}
use lib.ListN.{length, take}
use Prim.Native.Nat.{◌*◌}
use mathlib.Core.Path.{◌≡◌}
use Rattle.block_write.proofs.parts_out.put_slots.Given as goal

abbrev pub invariant-loop-i : goal.invariant-loop-i
invariant-loop-i l = (length l.d ≡ length l.initial.d) × ((length (slots_part (take l.i l.ls)) ≡ slot_length * l.i) × (l.d ≡ slots_put l.initial.d (take l.i l.ls)))
