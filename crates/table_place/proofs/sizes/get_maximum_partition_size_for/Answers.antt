use Rattle.std.proofs.Common.{◌≡◌, sym, ◌∙◌}
use Rattle.std.proofs.lemmas.Result.{err_from_is_err_and}
use Rattle.base.specs.Said.{refusal_code, refuses}
use Rattle.table_free.specs.Free.{free}
use Rattle.table_lookup.specs.Numbers.{get_says}
use Rattle.table_place.specs.Place.{growth}
use Rattle.table_place.proofs.Laws.{growth-for}
use Rattle.table_place.proofs.sizes.get_maximum_partition_size_for.Goals as goal

pub returns-in_err-e : goal.returns-in_err-e
returns-in_err-e c =
    let p = err_from_is_err_and c.from_residual-in_err-e.result c.from_residual-in_err-e.ensures.1 in
    let f : growth (get_says c.args.t c.args.i) (free c.args.t) ≡ refuses (refusal_code c.in_err-e.field-0.0) = rw (← c.in_ok-x.ensures.said.0, ← c.in_err-e.ensures) in
    rw (p.1, p.2) (sym f ∙ growth-for c.args.t c.args.i)
