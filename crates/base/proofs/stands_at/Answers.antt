use Rattle.base.proofs.Bytes.{part-stands}
use Prim.Native.Nat.{◌+◌, ◌-◌}
use native.Mathlib.Omega.{arith}
use lib.ListN.{length}
use mathlib.Core.Path.{◌≡◌, ◌∙◌}
use Rattle.base.proofs.stands_at.Goals as goal

pub returns : goal.returns
returns c =
    let n : c.args.at + length c.args.word.now - c.args.at ≡ length c.args.word.now = omega arith in
    c.eq.ensures ∙ rw n (part-stands c.args.s.now c.args.at c.args.word.now c.requires)
