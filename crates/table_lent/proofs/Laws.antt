-- Laws of a lent list of runs. Assumes nothing.
use mathlib.Core.Path.{◌≡◌}
use mathlib.Core.List.{List}
use Prim.Native.Nat.{ℕ}
use lib.ListN.{length}
use Rattle.base.specs.Said.{refuses}
use Rattle.table.specs.declared.MBR.{MBR}
use Rattle.table_free.specs.declared.Run.{Run}
use Rattle.table_lent.specs.Runs.{free_for, free_list, first}

-- a refusal leaves the lent list as it was
pub list-kept : (t : MBR) (l : List Run) (k : ℕ) → free_for t (length l) ≡ refuses k → free_list t l ≡ l
unfolding first
list-kept t l k e = rw e
