use Rattle.read_align.proofs.Laws.{divisor-hit, divisor-miss}
use Rattle.read_align.proofs.Euclid.{divisor-itself, tried, tried-not, one-tried}
use borrow.Author.Rules.{rules}
use native.Mathlib.Omega.{arith}
use Prim.Native.Nat.{ℕ}
use mathlib.Core.List.{[], ◌∷◌}
use mathlib.Core.Path.{refl, ◌∙◌}
use Rattle.read_align.proofs.largest_divisor.Goals as goal

pub returns-then-n-le-MAX_ALIGN : goal.returns-then-n-le-MAX_ALIGN
returns-then-n-le-MAX_ALIGN c = divisor-itself c.args.n c.requires (search rules)

pub loop-k-init : goal.loop-k-init
loop-k-init c = (search rules, (search rules, refl))

pub nonzero_rem-n : goal.nonzero_rem-n
nonzero_rem-n c = c.loop-k.invariant.0

pub loop-k-preserved : goal.loop-k-preserved
loop-k-preserved c =
    let n : ℕ = c.args.n in
    let p = one-tried n c.loop-k.k c.loop-k-test.true in
    (omega (arith, p, c.loop-k.invariant.0), (omega (arith, c.loop-k.invariant.1.0), c.loop-k.invariant.1.1 ∙ divisor-miss c.loop-k.k (n ∷ []) c.loop-k.invariant.0 (tried-not n c.loop-k.k c.loop-k-test.true)))

pub returns : goal.returns
returns c =
    let n : ℕ = c.args.n in
    c.loop-k.invariant.1.1 ∙ divisor-hit c.loop-k.k (n ∷ []) c.loop-k.invariant.0 (tried n c.loop-k.k c.loop-k-test.false)
