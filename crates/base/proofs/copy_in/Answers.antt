use Rattle.base.proofs.Put.{part-put}
use native.Mathlib.Omega.{arith}
use Rattle.base.proofs.copy_in.Goals as goal

pub returns : goal.returns
returns c = part-put c.args.d.now c.args.src.now _ c.args.at _ c.copy_from_slice.ensures.after (omega arith)
