use Rattle.block.proofs.Inside.{slot-in}
use mathlib.Core.Path.{sym, ◌∙◌}
use Rattle.block_read.proofs.fields.slot.Goals as goal

pub returns : goal.returns
returns c =
    c.slot_of.ensures ∙ sym (slot-in c.args.b.now c.args.i c.requires.1)
