use Rattle.std.proofs.Common.{◌≡◌, ◌+◌}
use lib.ListN.{drop}
use Rattle.table.specs.Table.{parts}
use Rattle.table_lookup.specs.Hits.{first_at, among_logicals}
use Rattle.table_lookup.proofs.hits.among_logicals.Given as goal

abbrev pub invariant-loop-i : goal.invariant-loop-i
invariant-loop-i l = among_logicals l.fn.t l.sector ≡ first_at l.sector (5 + l.i) (drop l.i (parts l.logicals))
