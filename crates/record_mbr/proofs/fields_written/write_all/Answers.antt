use Rattle.record_mbr.proofs.fields_written.Parts.{all-written, front_length}
use lib.ListN.{length}
use mathlib.Core.Path.{◌≡◌}
use borrow.Author.Rules.{rules}
use Rattle.record_mbr.proofs.fields_written.write_all.Goals as goal

pub returns : goal.returns
returns c =
    let n440 : length c.args.h.bootstrap_code ≡ 440 = search rules in
    let n4 : length c.args.h.disk_signature ≡ 4 = search rules in
    let n2 : length c.args.h.copy_protected ≡ 2 = search rules in
    all-written c.args.d.now _ _ c.args.h (front_length c.args.h n440 n4 n2) c.requires
    c.write_front.ensures
    c.write_back.ensures
