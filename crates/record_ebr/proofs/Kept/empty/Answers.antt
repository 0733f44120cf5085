use Rattle.record_ebr.specs.Ebr.{no_kept}
use mathlib.Core.Path.{refl}
use Rattle.record_ebr.proofs.Kept.empty.Goals as goal

pub returns : goal.returns
unfolding no_kept
returns c = refl
