use Rattle.std.proofs.Common.{◌≡◌, ◌+◌}
use lib.ListN.{drop}
use Rattle.record_mbr.specs.Mbr.{primaries}
use Rattle.table_lookup.specs.Hits.{first_at}
use Rattle.table_lookup.proofs.hits.among_primaries.Given as goal

abbrev pub invariant-loop-i : goal.invariant-loop-i
invariant-loop-i l = first_at l.sector 1 (primaries l.fn.h) ≡ first_at l.sector (1 + l.i) (drop l.i (primaries l.fn.h))
