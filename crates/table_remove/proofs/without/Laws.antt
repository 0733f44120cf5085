-- The logical partitions of a table with one less. Assumes nothing.
use mathlib.Core.Path.{◌≡◌}
use mathlib.Core.List.{◌++◌}
use Prim.Native.Nat.{ℕ, ◌+◌, ◌≤◌, ◌<◌}
use lib.ListN.{length, take, drop}
use Rattle.table.specs.declared.MBR.{MBR}
use Rattle.table.specs.Table.{logicals}
use Rattle.table_remove.specs.Less.{without}
use Rattle.table_remove.proofs.without.Shift.{gone}

-- the logical partitions after a removal: those before it and those behind it
pub without-logicals : (t : MBR) (k : ℕ) → k < t.count → t.count ≤ length t.logical_partitions
    → logicals (without t k) ≡ take k (logicals t) ++ drop (k + 1) (logicals t)
without-logicals t k h l = gone t.logical_partitions k t.count h l
