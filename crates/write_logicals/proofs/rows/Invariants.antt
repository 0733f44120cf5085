use lib.ListN.{drop}
use Prim.Native.Nat.{◌-◌, ◌≤◌}
use mathlib.Core.Path.{◌≡◌}
use mathlib.Core.List.{◌∷◌}
use Rattle.base.specs.Checks.{first-fail}
use Rattle.block.specs.Block.{table_in}
use Rattle.write_rules.specs.AsWritten.{all_rows, as_written_in}
use Rattle.write_logicals.proofs.rows.Given as goal

abbrev pub invariant-loop-i : goal.invariant-loop-i
invariant-loop-i l = (l.i ≤ l.n) × (first-fail (all_rows l.d (as_written_in (table_in l.b) l.x)) ≡ first-fail (all_rows l.d (l.l ∷ drop l.i (as_written_in (table_in l.b) l.x))))

abbrev pub decreases-loop-i : goal.decreases-loop-i
decreases-loop-i l = l.n - l.i
