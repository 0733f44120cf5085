use mathlib.Core.Path.{◌≡◌, sym, ◌∙◌}
use Rattle.block.specs.Block.{table_in}
use Rattle.block.proofs.Inside.{align-in}
use Rattle.table_place.proofs.Laws.{few-usable}
use Rattle.block_free.proofs.places.Laws.{usable-here}
use Rattle.block_free.proofs.sizes.size_of.Goals as goal

pub size_by-requires : goal.size_by-requires
size_by-requires c =
    few-usable c.free_of-found.result c.get32.result c.free_of-found.ensures.few
    (usable-here (table_in c.args.b.now) _ _ (c.get32.ensures ∙ sym (align-in c.args.b.now)) c.free_of-found.ensures.said.0)

pub returns-in-New : goal.returns-in-New
returns-in-New c =
    let a : c.get32.result ≡ (table_in c.args.b.now).align = c.get32.ensures ∙ sym (align-in c.args.b.now) in
    rw (c.in-New.is, ← c.free_of-found.ensures.said.0, ← a) c.size_by.ensures
