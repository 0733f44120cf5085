use Rattle.std.proofs.lemmas.Result.{err_from_is_err_and}
use mathlib.Core.Path.{sym}
use Rattle.block.proofs.calls.Laws.{passed, look-refused, look-done}
use Rattle.block_free.specs.Size.{size_for}
use Rattle.block_free.proofs.sizes.size_in.Goals as goal

pub size_of-requires : goal.size_of-requires
size_of-requires c = passed c.args.b.now (sym c.in_ok-check.ensures)

pub returns-in_err-check : goal.returns-in_err-check
returns-in_err-check c =
    let p = err_from_is_err_and c.from_residual.result c.from_residual.ensures.1 in
    rw (p.1, p.2) (look-refused c.args.b.now (size_for c.args.whose) _ (sym c.in_err-check.ensures))

pub returns : goal.returns
returns c = look-done c.args.b.now (size_for c.args.whose) _ (sym c.in_ok-check.ensures) c.size_of.ensures
