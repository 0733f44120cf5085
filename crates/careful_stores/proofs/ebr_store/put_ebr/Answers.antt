use mathlib.Core.Path.{◌≡◌}
use lib.ListN.{length}
use Rattle.careful_stores.proofs.ebr_store.Laws.{ebr-written}
use Rattle.record_ebr.specs.Ebr.{mark_length}
use borrow.Author.Rules.{rules}
use Rattle.careful_stores.proofs.ebr_store.put_ebr.Goals as goal

pub returns : goal.returns
returns c =
    let code-long : length c.args.l.kept.bootstrap_code ≡ 446 =
    (search rules) in
    let mark-long : length c.args.l.kept.mark ≡ mark_length =
    (search rules) in
    ebr-written c.args.out.now _ _ c.args.at c.args.l _ c.args.link c.ebr_with.ensures mark-long code-long c.requires c.put32.ensures c.write_at.ensures
