use Rattle.abi_header.proofs.header_bytes.Laws.{short, fitting}
use Rattle.abi_header.proofs.header_bytes.header_to.Goals as goal

pub returns-then-out-ne-HEADER : goal.returns-then-out-ne-HEADER
returns-then-out-ne-HEADER c =
    let both = short c.args.h c.args.out.now c.if-out-ne-HEADER.true in
    record { value = both.0; out_after = both.1 }

pub returns : goal.returns
returns c =
    let both = fitting c.args.h c.args.out.now _ c.if-out-ne-HEADER.false c.put_header.ensures in
    record { value = both.0; out_after = both.1 }
