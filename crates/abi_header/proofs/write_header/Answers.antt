use Rattle.abi_header.proofs.Laws.{write-refused, write_done}
use Rattle.abi_header.proofs.write_header.Goals as goal

pub returns-then-header-ne-HEADER : goal.returns-then-header-ne-HEADER
returns-then-header-ne-HEADER c =
    let both = write-refused c.args.header.now c.args.x.now c.args.out.now c.if-header-ne-HEADER.true in
    record { said = both.0; left = both.1 }

pub returns : goal.returns
returns c =
    let both = write_done c.args.header.now c.args.x.now c.args.out.now _ _ _ c.if-header-ne-HEADER.false c.get_header.ensures c.write_header.ensures.said c.write_header.ensures.left in
    record { said = both.0; left = both.1 }
