use Rattle.block_read.proofs.tags.Tags.{masked, none-tagged, word_over}
use Rattle.block.specs.Block.{tagged}
use Rattle.table.specs.Table.{most}
use mathlib.Core.Path.{◌≡◌, ap, ◌∙◌}
use Prim.Native.Nat.{ℕ, ◌*◌, ◌/◌}
use native.Mathlib.Omega.{arith}
use borrow.Author.Rules.{rules}
use Rattle.block_read.proofs.tags.words_tagged.Goals as goal

pub loop-i-init : goal.loop-i-init
loop-i-init c = (search rules, none-tagged c.args.b.now)

pub loop-i-preserved : goal.loop-i-preserved
loop-i-preserved c =
    (search rules, word_over c.args.b.now (λ j. (c.type_inv.b j).fits) c.loop-i.all c.get64-all.result c.loop-i.i c.loop-i.invariant.1 c.get64-all.ensures)

pub returns : goal.returns
returns c =
    let z : c.loop-i.i ≡ most / 8 = omega (arith, c.loop-i.invariant.0, c.loop-i-test.false) in
    masked 8 c.loop-i.all ∙ c.loop-i.invariant.1 ∙ ap (λ (i : ℕ). tagged c.args.b.now 0 (8 * i)) z
