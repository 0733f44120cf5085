use Rattle.read_align.specs.Align.{divisor_to}
use Rattle.table.specs.Table.{greatest_align}
use Prim.Native.Nat.{◌≤◌, ◌<◌}
use mathlib.Core.List.{[], ◌∷◌}
use mathlib.Core.Path.{◌≡◌}
use Rattle.read_align.proofs.largest_divisor.Given as goal

abbrev pub invariant-loop-k : goal.invariant-loop-k
invariant-loop-k l = (0 < l.k) × ((l.k ≤ greatest_align) × (divisor_to greatest_align (l.n ∷ []) ≡ divisor_to l.k (l.n ∷ [])))

abbrev pub decreases-loop-k : goal.decreases-loop-k
decreases-loop-k l = l.k
