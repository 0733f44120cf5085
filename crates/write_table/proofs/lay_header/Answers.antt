use lib.ListN.{length}
use mathlib.Core.Path.{◌≡◌}
use Rattle.write_table.proofs.Steps.{header-laid}
use borrow.Author.Rules.{rules}
use Rattle.write_table.proofs.lay_header.Goals as goal

pub returns : goal.returns
returns c =
    let n : length c.header_record-first.result ≡ 512 = search rules in
    header-laid c.args.x.now c.args.h _ c.args.out.now _ _ c.requires.0 c.header_record-first.ensures n c.requires.1 c.lay_over.ensures.said c.lay_over.ensures.left
