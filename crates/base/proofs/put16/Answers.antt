use Rattle.base.specs.Bytes.{digits}
use Rattle.base.proofs.Put.{part-put}
use native.Mathlib.Omega.{arith}
use mathlib.Core.Path.{◌∙◌}
use Rattle.base.proofs.put16.Goals as goal

pub returns : goal.returns
returns c = part-put c.args.d.now (digits 2 c.args.v) _ c.args.at _ (c.copy_from_slice.ensures.after ∙ c.to_le_bytes.ensures) (omega arith)
