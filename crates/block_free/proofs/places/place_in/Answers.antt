use Rattle.std.proofs.lemmas.Result.{err_from_is_err_and}
use mathlib.Core.Path.{sym}
use Rattle.table.specs.declared.MBR.{MBR}
use Rattle.block.proofs.calls.Laws.{passed, look-refused, look-done}
use Rattle.block_free.specs.Place.{place_by}
use Rattle.block_free.proofs.places.place_in.Goals as goal

pub place_of-requires : goal.place_of-requires
place_of-requires c = passed c.args.b.now (sym c.in_ok-check.ensures)

pub returns-in_err-check : goal.returns-in_err-check
returns-in_err-check c =
    let p = err_from_is_err_and c.from_residual.result c.from_residual.ensures.1 in
    rw (p.1, p.2) (look-refused c.args.b.now (λ (t : MBR). place_by c.args.which t c.args.size) _ (sym c.in_err-check.ensures))

pub returns : goal.returns
returns c = look-done c.args.b.now (λ (t : MBR). place_by c.args.which t c.args.size) _ (sym c.in_ok-check.ensures) c.place_of.ensures
