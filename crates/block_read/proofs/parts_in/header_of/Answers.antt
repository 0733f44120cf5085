use mathlib.Core.Path.{sym, ap, ◌∙◌}
use Rattle.block.specs.Block.{header_in}
use Rattle.block.proofs.Inside.{header-in}
use Rattle.block_read.proofs.parts_in.header_of.Goals as goal

pub returns : goal.returns
returns c = c.get_header.ensures ∙ ap header_in c.part_of.ensures.0 ∙ sym (header-in c.args.b.now)
