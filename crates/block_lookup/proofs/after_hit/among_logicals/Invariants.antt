use Rattle.block.specs.Block.{table_in}
use Rattle.table_lookup.specs.Hits.{first_at, among_logicals}
use Rattle.table.specs.Table.{logicals, parts}
use lib.ListN.{drop}
use mathlib.Core.Path.{◌≡◌}
use Prim.Native.Nat.{◌≤◌, ◌+◌, ◌-◌}
use Rattle.block_lookup.proofs.after_hit.among_logicals.Given as goal

abbrev pub invariant-loop-i : goal.invariant-loop-i
invariant-loop-i l = (l.i ≤ l.n) × (among_logicals (table_in l.b) l.sector ≡ first_at l.sector (5 + l.i) (drop l.i (parts (logicals (table_in l.b)))))

abbrev pub decreases-loop-i : goal.decreases-loop-i
decreases-loop-i l = l.n - l.i
