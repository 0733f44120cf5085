use mathlib.Core.Path.{◌≡◌}
use Prim.Native.Nat.{◌≤◌, ◌-◌}
use Rattle.extract.specs.Extract.{lbas_from, lba_checks}
use Rattle.base.specs.Checks.{first-fail}
use Rattle.extract.proofs.Rising.{from}
use Rattle.extract.proofs.lba_rules.Given as goal

abbrev pub invariant-loop-i : goal.invariant-loop-i
invariant-loop-i l =
    (l.i ≤ l.n) × ((l.next ≤ 4294967296) × (first-fail (lba_checks l.disk (lbas_from l.x 0 l.n)) ≡ from l.disk l.next (lbas_from l.x l.i (l.n - l.i))))

abbrev pub decreases-loop-i : goal.decreases-loop-i
decreases-loop-i l = l.n - l.i
