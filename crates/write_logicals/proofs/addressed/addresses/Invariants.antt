use lib.ListN.{drop}
use mathlib.Core.Path.{◌≡◌}
use Rattle.base.specs.Checks.{first-fail}
use Rattle.table.specs.Table.{logicals}
use Rattle.block.specs.Block.{table_in}
use Rattle.table_push.specs.Push.{geometry_of}
use Rattle.write_rules.specs.AsWritten.{first_at_start, all_geometry, slots_geometry}
use Rattle.write_logicals.proofs.addressed.addresses.Given as goal

abbrev pub invariant-loop-i : goal.invariant-loop-i
invariant-loop-i l = first-fail (slots_geometry (table_in l.b) l.x) ≡ first-fail (all_geometry (geometry_of (table_in l.b)) (drop l.i (first_at_start l.x (logicals (table_in l.b)))))
