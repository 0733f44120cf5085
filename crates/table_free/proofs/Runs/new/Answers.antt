use Rattle.table_free.specs.Free.{run_list}
use mathlib.Core.Path.{refl}
use Rattle.table_free.proofs.Runs.new.Goals as goal

pub returns : goal.returns
unfolding run_list
returns c = refl
