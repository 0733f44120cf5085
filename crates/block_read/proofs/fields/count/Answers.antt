use Rattle.block.proofs.Inside.{count-in}
use mathlib.Core.Path.{sym, ◌∙◌}
use Rattle.block_read.proofs.fields.count.Goals as goal

pub returns : goal.returns
returns c = c.get32.ensures ∙ sym (count-in c.args.b.now)
