use borrow.Author.Rules.{rules}
use native.Mathlib.Nat.{sub-zero}
use mathlib.Core.Path.{sym, ◌∙◌}
use Prim.Native.Nat.{◌≤◌, ◌<◌}
use Rattle.extract.specs.Extract.{lba_at}
use Rattle.extract.proofs.Rising.{scan-start, turn-fall, turn-rise, end-past, end-good}
use Rattle.extract.proofs.lba_rules.Goals as goal

pub loop-i-init : goal.loop-i-init
loop-i-init c = (search rules, (search rules, rw sub-zero (scan-start _ _)))

pub returns-then-lba-next : goal.returns-then-lba-next
returns-then-lba-next c =
    let e : lba_at c.args.x.now c.loop-i.i < c.loop-i.next = rw c.word_at-lba.ensures at c.if-lba-next.true in
    sym (c.loop-i.invariant.1.1 ∙ turn-fall c.args.x.now c.args.disk c.args.n c.loop-i.i c.loop-i.next (search rules) e)

pub loop-i-preserved : goal.loop-i-preserved
loop-i-preserved c =
    let e : c.loop-i.next ≤ lba_at c.args.x.now c.loop-i.i = rw c.word_at-lba.ensures at c.if-lba-next.false in
    (search rules, (search rules, c.loop-i.invariant.1.1 ∙ turn-rise c.args.x.now c.args.disk c.args.n c.loop-i.i c.loop-i.next (search rules) e ∙ rw c.word_at-lba.ensures))

pub returns-then-disk-next : goal.returns-then-disk-next
returns-then-disk-next c =
    sym (c.loop-i.invariant.1.1 ∙ end-past c.args.x.now c.args.disk c.args.n c.loop-i.i c.loop-i.next (search rules) (search rules))

pub returns : goal.returns
returns c =
    sym (c.loop-i.invariant.1.1 ∙ end-good c.args.x.now c.args.disk c.args.n c.loop-i.i c.loop-i.next (search rules) (search rules))
