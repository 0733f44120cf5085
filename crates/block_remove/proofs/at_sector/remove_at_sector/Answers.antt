use Rattle.std.proofs.lemmas.Result.{err_from_is_err_and}
use mathlib.Core.Path.{sym, ap, ◌∙◌}
use Rattle.base.specs.Said.{gives}
use Rattle.block.proofs.calls.Laws.{passed}
use Rattle.block_remove.proofs.at_sector.Changed.{found_below, at-refused, at_none, at_done}
use Rattle.block_remove.proofs.at_sector.remove_at_sector.Goals as goal

pub find-requires : goal.find-requires
find-requires c = passed _ (sym c.in_ok-check.ensures)

pub remove_number-requires : goal.remove_number-requires
remove_number-requires c =
    let e = sym c.in_ok-n.ensures ∙ ap gives c.in-Some.is in
    (passed _ (sym c.in_ok-check.ensures), found_below c.args.b.now c.args.sector _ e)

pub returns-in_err-n : goal.returns-in_err-n
returns-in_err-n c =
    let p = err_from_is_err_and c.from_residual-in_err-n.result c.from_residual-in_err-n.ensures.1 in
    let both = at-refused c.args.b.now c.args.sector _ (sym c.in_ok-check.ensures) (sym c.in_err-n.ensures) in
    record { said = rw (p.1, p.2) both.0; left = both.1 }

pub returns-in_default : goal.returns-in_default
returns-in_default c =
    let both = at_none c.args.b.now c.args.sector (sym c.in_ok-check.ensures) (sym c.in_ok-n.ensures ∙ ap gives c.in_default.is) in
    record { said = both.0; left = both.1 }

pub returns : goal.returns
returns c =
    let both = at_done c.args.b.now c.args.sector _ _ (sym c.in_ok-check.ensures) (sym c.in_ok-n.ensures ∙ ap gives c.in-Some.is) c.remove_number.ensures in
    record { said = both.0; left = both.1 }
