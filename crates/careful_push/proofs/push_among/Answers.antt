use mathlib.Core.Path.{◌≡◌, sym, ap, ◌∙◌}
use lib.ListN.{length}
use Rattle.std.specs.Prelude.{Err, Some}
use Rattle.base.specs.Said.{answered}
use Rattle.base.proofs.Checks.{answer-refuses}
use Rattle.table.specs.Table.{logicals}
use Rattle.table_push.specs.Push.{place_of, later_than, new_logical, push_checks}
use Rattle.table_push.proofs.Steps.{push-gives}
use Rattle.careful.specs.Stores.{push_stores}
use Rattle.careful_stores.proofs.push_writer.Laws.{tells-passed, tells-same}
use Rattle.careful_push.proofs.Laws.{among-fails, among-holds, among-stores}
use Rattle.careful_stores.specs.Space.{space_between}
use Rattle.careful_stores.specs.Behind.{stores_between}
use Rattle.careful_push.specs.Change.{checks_among}
use borrow.Author.Rules.{rules}
use Rattle.careful_push.proofs.push_among.Goals as goal

pub returns-in_err-new : goal.returns-in_err-new
returns-in_err-new c =
    let ls = logicals c.args.t in
    let cs = checks_among (length c.args.out.now) c.args.q c.args.e c.args.t.count ls in
    let ss = push_stores c.args.e (place_of c.args.q) ls (new_logical (later_than c.args.t.count) c.args.q) in
    let e : c.from_residual.result ≡ Err c.in_err-new.field-0.0 = search rules in
    let f = answer-refuses (push_checks c.args.q (Some c.args.e) c.args.t.count) _ _ (sym c.new_logical.ensures ∙ ap answered c.in_err-new.was) in
    tells-passed c.from_residual.result c.args.out.now cs ss _ (ap answered e) (among-fails (length c.args.out.now) c.args.q c.args.e c.args.t.count ls _ f)

pub returns : goal.returns
returns c =
    let ls = logicals c.args.t in
    let cs = checks_among (length c.args.out.now) c.args.q c.args.e c.args.t.count ls in
    let ss = push_stores c.args.e (place_of c.args.q) ls (new_logical (later_than c.args.t.count) c.args.q) in
    let new = c.in_ok-new.new in
    let b = c.between_at.result in
    let g = push-gives c.args.q c.args.e c.args.t.count new (sym c.new_logical.ensures ∙ ap answered c.in_ok-new.was) in
    tells-same c.push_new.result c.args.out.now _ cs (space_between c.args.e b new (length c.args.out.now)) ss (stores_between c.args.e b new)
    (among-holds (length c.args.out.now) c.args.q c.args.e c.args.t.count ls new g.0 g.1 b c.between_at.ensures)
    (among-stores (length c.args.out.now) c.args.q c.args.e c.args.t.count ls new g.0 g.1 b c.between_at.ensures)
    c.push_new.ensures
