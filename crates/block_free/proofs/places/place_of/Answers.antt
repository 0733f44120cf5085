use mathlib.Core.Path.{◌≡◌, sym, ◌∙◌}
use Rattle.block.specs.Block.{table_in}
use Rattle.block.proofs.Inside.{align-in}
use Rattle.block_free.proofs.places.Laws.{usable-here}
use Rattle.block_free.proofs.places.place_of.Goals as goal

pub last_by-requires : goal.last_by-requires
last_by-requires c =
    (c.free_of-found.ensures.few, usable-here (table_in c.args.b.now) _ _ (c.get32.ensures ∙ sym (align-in c.args.b.now)) c.free_of-found.ensures.said.0)

pub returns-in-Last : goal.returns-in-Last
returns-in-Last c =
    let a : c.get32.result ≡ (table_in c.args.b.now).align = c.get32.ensures ∙ sym (align-in c.args.b.now) in
    rw (c.in-Last.is, ← c.free_of-found.ensures.said.0, ← a) c.last_by.ensures
