use lib.ListN.{drop}
use Prim.Native.Nat.{◌+◌, ◌≤◌}
use mathlib.Core.Path.{◌≡◌}
use Rattle.extract_lay.specs.Plan.{planned, plan_of, slots_over}
use Rattle.block.specs.Block.{table_in}
use Rattle.write_rules.specs.AsWritten.{as_written_in}
use Rattle.write_rules.specs.Sources.{ebr_slots, slots_of, ebr_source}
use Rattle.write_extract.proofs.plan_for.plan_for.Given as goal

abbrev pub invariant-loop-i : goal.invariant-loop-i
invariant-loop-i l = record {
  room : l.plan.count ≤ ebr_source + l.i;
  laid : slots_of l.x (as_written_in (table_in l.b) l.first_at) ≡ slots_over (ebr_slots (ebr_source + l.i) (drop l.i (as_written_in (table_in l.b) l.first_at))) (planned l.plan);
  unused : l.plan ≡ plan_of (planned l.plan);
}
