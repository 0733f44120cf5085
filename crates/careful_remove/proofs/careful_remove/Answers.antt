use Rattle.base.specs.Said.{refusal_code}
use Rattle.std.specs.Prelude.{◌≡◌, Err}
use Rattle.read_table.specs.Read.{read_says}
use Rattle.read_table.proofs.Says.{read-refused, read-given}
use Rattle.read_table.proofs.Facts.{given-few}
use borrow.Author.Rules.{rules}
use lib.ListN.{length}
use Rattle.base.specs.Bytes.{Bytes}
use Rattle.base.proofs.Bytes.{bytes-all}
use Rattle.careful.proofs.Demand3.{remove-demand3}
use Rattle.careful_remove.proofs.Laws.{remove-unread, remove-read}
use Rattle.careful_remove.proofs.careful_remove.Goals as goal

pub returns-in_err-t : goal.returns-in_err-t
returns-in_err-t c =
    let r : c.from_residual.result ≡ Err c.in_err-t.field-0.0 = search rules in
    let are-bytes : Bytes c.args.x.now =
    bytes-all c.args.x.now (λ i. (c.type_inv.x i).fits) in
    let h = read-refused (read_says c.args.x.now) (refusal_code c.in_err-t.field-0.0) c.in_err-t.ensures in
    let p = remove-unread c.args.x.now (length c.args.out.now) c.args.number c.args.out.now _ h in
    rw r record { result_value = p.0; out_after = p.1; remove_demand3 = remove-demand3 c.args.x.now are-bytes c.args.out.now _ _ c.args.number p.0 p.1 }

pub remove_on-requires : goal.remove_on-requires
remove_on-requires c = given-few c.args.x.now c.in_ok-t.t c.in_ok-t.ensures

pub returns : goal.returns
returns c =
    let are-bytes : Bytes c.args.x.now =
    bytes-all c.args.x.now (λ i. (c.type_inv.x i).fits) in
    let h = read-given (read_says c.args.x.now) c.in_ok-t.t c.in_ok-t.ensures in
    let p = remove-read c.args.x.now (length c.args.out.now) c.args.number c.remove_on.result c.args.out.now _ _ h.0 h.1 c.remove_on.ensures in
    record { result_value = p.0; out_after = p.1; remove_demand3 = remove-demand3 c.args.x.now are-bytes c.args.out.now _ _ c.args.number p.0 p.1 }
