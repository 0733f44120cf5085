use mathlib.Core.Path.{sym, ◌∙◌}
use Rattle.table_address.specs.Address.{update_chs}
use Rattle.table_address.proofs.four.with_geometry.Goals as goal

pub returns-then-not-is_complete : goal.returns-then-not-is_complete
returns-then-not-is_complete c =
    let f = sym c.is_complete.ensures ∙ c.if-not-is_complete.true in
    rw f

pub returns : goal.returns
unfolding update_chs
returns c =
    let f = sym c.is_complete.ensures ∙ c.if-not-is_complete.false in
    rw f c.update.ensures
