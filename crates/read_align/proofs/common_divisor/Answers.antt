use Rattle.read_align.proofs.Euclid.{common-first, common-turn, common-last}
use borrow.Author.Rules.{rules}
use mathlib.Core.Path.{sym, ◌∙◌}
use Rattle.read_align.proofs.common_divisor.Goals as goal

pub loop-s-init : goal.loop-s-init
loop-s-init c = common-first c.args.starts.now

pub loop-s-preserved : goal.loop-s-preserved
loop-s-preserved c =
    λ d. sym (common-turn c.loop-s.g c.gcd-g.result c.args.starts.now c.loop-s.s-index d (search rules) c.gcd-g.ensures) ∙ c.loop-s.invariant d

pub returns : goal.returns
returns c = λ d. sym (common-last c.loop-s.g c.args.starts.now c.loop-s.s-index d (search rules)) ∙ c.loop-s.invariant d
