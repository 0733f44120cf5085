use Rattle.read_listing.proofs.Said.{listing-refused, listing-table}
use Rattle.read_table.proofs.Facts.{given-few}
use borrow.Author.Tests.{lt-leb, le-leb}
use borrow.Author.Rules.{rules}
use Rattle.read_listing.proofs.listing.Goals as goal

pub returns-then-out-lt-LISTING : goal.returns-then-out-lt-LISTING
returns-then-out-lt-LISTING c =
    let m = lt-leb _ _ c.if-out-lt-LISTING.true in
    record { result_value = rw m; out_after = rw m }

pub put_table-requires : goal.put_table-requires
put_table-requires c = (given-few c.args.x.now c.in-Ok.t c.in-Ok.ensures, search rules)

pub returns-in-Err : goal.returns-in-Err
returns-in-Err c =
    let m = le-leb _ _ c.if-out-lt-LISTING.false in
    let e = listing-refused c.args.x.now _ c.in-Err.ensures in
    record { result_value = rw (m, e, ← c.number.ensures, ← c.put_refused.ensures.0); out_after = rw (m, e, ← c.number.ensures) c.put_refused.ensures.1 }

pub returns-in-Ok : goal.returns-in-Ok
returns-in-Ok c =
    let m = le-leb _ _ c.if-out-lt-LISTING.false in
    let e = listing-table c.args.x.now c.in-Ok.t c.in-Ok.ensures in
    record { result_value = rw (m, e, ← c.put_table.ensures.0); out_after = rw (m, e) c.put_table.ensures.1 }
