use Rattle.base.specs.Bytes.{digits}
use Rattle.base.proofs.Put.{part-put}
use native.Mathlib.Omega.{arith}
use Prim.Native.Nat.{◌/◌}
use mathlib.Core.Path.{◌≡◌, ◌∙◌}
use Rattle.base.proofs.put32.Goals as goal

pub returns : goal.returns
returns c =
    let v = c.args.v in
    let e : v / 65536 ≡ v / 256 / 256 = omega arith in
    let f : v / 16777216 ≡ v / 256 / 256 / 256 = omega arith in
    part-put c.args.d.now (digits 4 v) _ c.args.at _ (c.copy_from_slice.ensures.after ∙ c.to_le_bytes.ensures ∙ rw (e, f)) (omega arith)
