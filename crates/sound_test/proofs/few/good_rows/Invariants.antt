use mathlib.Core.Path.{◌≡◌}
use mathlib.Core.Bool.{true}
use lib.Dec.{eqb}
use lib.ListN.{drop}
use Rattle.sound.specs.Walk.{rowsb}
use Rattle.sound_test.proofs.few.good_rows.Given as goal

abbrev pub invariant-loop-i : goal.invariant-loop-i
invariant-loop-i l = rowsb l.hi true l.from l.l-items ≡ rowsb l.hi (eqb l.i 0) l.end (drop l.i l.l-items)
