-- A digit more stays below the bound.
use Rattle.std.proofs.Common.{◌<◌, ℕ}
use Rattle.case_show.proofs.line.Line.decimal.Given as goal

abbrev pub invariant-loop-b : goal.invariant-loop-b
invariant-loop-b l = l.n < 1000000000000000000
