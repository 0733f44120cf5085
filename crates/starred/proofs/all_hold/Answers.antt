use mathlib.Core.Path.{sym}
use Rattle.starred.proofs.Starred.{starred-hold}
use Rattle.starred.proofs.all_hold.Goals as goal

pub returns : goal.returns
returns c = sym starred-hold
