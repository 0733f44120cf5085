use Rattle.block_read.proofs.tags.Tags.{tags-end}
use Rattle.table.specs.Table.{most}
use mathlib.Core.Path.{sym, ◌∙◌}
use Rattle.block_read.proofs.tags.rest_tagged.Goals as goal

pub returns : goal.returns
returns c =
    sym (c.loop-i.invariant.1 ∙ tags-end c.args.b.now c.loop-i.i most c.loop-i-test.false)
