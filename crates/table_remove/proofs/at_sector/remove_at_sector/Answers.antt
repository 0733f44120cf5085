use native.Mathlib.Omega.{arith}
use Rattle.table_lookup.proofs.Decision.{names}
use Rattle.table_lookup.proofs.at_sector.Search.{found-logical}
use Rattle.base.specs.Said.{gives}
use mathlib.Core.Path.{sym, ap, ◌∙◌}
use Rattle.table_remove.proofs.at_sector.remove_at_sector.Goals as goal

pub remove_logical-requires : goal.remove_logical-requires
remove_logical-requires c =
    let f = sym c.in_ok-n.ensures ∙ ap gives c.in-Some.is in
    let n = names c.in-Some.n _ (sym c.in-Logical.ensures) in
    let w = found-logical c.args.t.now c.args.sector _ f n.1 in
    (omega (arith, n.0, w.0), w.1)
