-- The free runs of a table, for places and sizes. Assumes nothing.
use mathlib.Core.Path.{◌≡◌}
use mathlib.Core.List.{List}
use Prim.Native.Nat.{ℕ}
use Rattle.base.specs.Said.{Said}
use Rattle.table.specs.declared.MBR.{MBR}
use Rattle.table_free.specs.declared.Run.{Run}
use Rattle.table_free.specs.Free.{free, Usable}
use Rattle.table_free.proofs.Laws.{free-usable}

-- the free runs of a table are usable at its alignment
pub usable-here : (t : MBR) (v : Said (List Run)) (n : ℕ) → n ≡ t.align → v ≡ free t → Usable n v
usable-here t v n a h = rw (a, h) (free-usable t)
