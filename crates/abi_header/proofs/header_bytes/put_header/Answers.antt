use Rattle.abi_header.proofs.header_bytes.Laws.{header-put}
use borrow.Author.Rules.{rules}
use Rattle.abi_header.proofs.header_bytes.put_header.Goals as goal

pub returns : goal.returns
returns c =
    header-put _ _ c.args.out.now _ c.args.h (search rules) c.requires c.put_header.ensures c.copy_in.ensures
