use borrow.Author.Rules.{rules}
use native.Mathlib.Omega.{arith}
use mathlib.Core.Path.{◌≡◌}
use Prim.Native.Nat.{ℕ, ◌≤◌, ◌<◌, ◌-◌, ◌+◌, ◌/◌}
use native.Mathlib.Decide.{dec_lt}
use Rattle.extract.specs.Extract.{count, lba_at}
use Rattle.extract.proofs.Good.{good-few, good-long}
use Rattle.extract.proofs.Halves.{lower, higher}
use Rattle.extract.proofs.seek.Goals as goal

above : (a b : ℕ) → (a ≡ b → ⊥) → b ≤ a → b < a
above a b p q = elim (dec_lt b a) [ yes h ↦ h | no h ↦ absurd (p (omega arith)) ]

pub loop-lo-init : goal.loop-lo-init
loop-lo-init c =
    let f = good-few _ c.requires.1 in
    let l = good-long _ c.requires.1 in
    (search rules, search rules, omega arith, omega arith, λ j h. absurd (omega arith), λ j h k. absurd (omega arith))

pub loop-lo-preserved-then-a-lba-2 : goal.loop-lo-preserved-then-a-lba-2
loop-lo-preserved-then-a-lba-2 c =
    let m = c.loop-lo.lo + (c.loop-lo.hi - c.loop-lo.lo) / 2 in
    let e : m < count c.args.x.now = omega arith in
    let d : c.word_at-a.result ≡ lba_at c.args.x.now m = c.word_at-a.ensures in (
      search rules,
      search rules,
      c.loop-lo.invariant.2,
      c.loop-lo.invariant.3,
      lower c.args.x.now c.requires.1 c.args.lba m e (rw d at c.if-a-lba-2.true),
      c.loop-lo.invariant.5,
    )

pub loop-lo-preserved : goal.loop-lo-preserved
loop-lo-preserved c =
    let m = c.loop-lo.lo + (c.loop-lo.hi - c.loop-lo.lo) / 2 in
    let e : m < count c.args.x.now = omega arith in
    let d : c.word_at-a.result ≡ lba_at c.args.x.now m = c.word_at-a.ensures in
    let h : c.args.lba < lba_at c.args.x.now m = above _ _ (rw d at c.if-a-lba.false) (rw d at c.if-a-lba-2.false) in (
      search rules,
      search rules,
      c.loop-lo.invariant.2,
      c.loop-lo.invariant.3,
      c.loop-lo.invariant.4,
      λ j p q. higher c.args.x.now c.requires.1 c.args.lba m e h j p (omega arith),
    )

pub returns : goal.returns
returns c =
    (search rules, c.loop-lo.invariant.4, λ j p q. c.loop-lo.invariant.5 j (omega arith) q)
