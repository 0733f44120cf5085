use Rattle.record_ebr.proofs.writer.Parts.{written}
use native.Mathlib.Omega.{arith}
use lib.ListN.{length}
use mathlib.Core.Path.{◌≡◌}
use Rattle.record_ebr.specs.Ebr.{mark_length}
use borrow.Author.Rules.{rules}
use Rattle.record_ebr.proofs.writer.write_at.Goals as goal

pub copy_in-requires : goal.copy_in-requires
copy_in-requires c =
    let n : length c.args.h.kept.bootstrap_code ≡ 446 = search rules in
    omega arith

pub returns : goal.returns
returns c =
    let n : length c.args.h.kept.bootstrap_code ≡ 446 = search rules in
    let w : length c.args.mark ≡ mark_length = search rules in
    written c.args.d.now _ _ _ _ _ c.args.at c.args.mark c.args.h w n c.requires
    c.copy_in.ensures
    c.write.ensures
    c.write-2.ensures
    c.copy_in-2.ensures
    c.copy_in-3.ensures
