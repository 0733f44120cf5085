use Rattle.read_align.specs.Align.{divides_all}
use lib.ListN.{drop}
use Prim.Native.Nat.{ℕ}
use mathlib.Core.List.{◌∷◌}
use mathlib.Core.Path.{◌≡◌}
use Rattle.read_align.proofs.common_divisor.Given as goal

abbrev pub invariant-loop-s : goal.invariant-loop-s
invariant-loop-s l = (d : ℕ) → divides_all d (l.g ∷ drop l.s-index l.starts) ≡ divides_all d l.starts
