-- Runs as bytes. Assumes nothing.
use mathlib.Core.Path.{refl}
use mathlib.Core.List.{List, [], ◌∷◌}
use Rattle.extract_lay.proofs.plan.Laws.{Wide}
use Rattle.table_free.specs.declared.Run.{Run}
use Rattle.block_free.specs.Runs.{run_part}

-- every run has 8 bytes
pub runs_wide : (rs : List Run) → Wide run_part 8 rs
runs_wide [] = tt
runs_wide (r ∷ rs) = (refl, runs_wide rs)
