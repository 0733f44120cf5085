use Rattle.record_mbr.proofs.fields_written.Parts.{front-written}
use lib.ListN.{length}
use native.Mathlib.Omega.{arith}
use mathlib.Core.Path.{◌≡◌}
use borrow.Author.Rules.{rules}
use Rattle.record_mbr.proofs.fields_written.write_front.Goals as goal

pub copy_in-requires : goal.copy_in-requires
copy_in-requires c =
    let n440 : length c.args.h.bootstrap_code ≡ 440 = search rules in
    omega arith

pub copy_in-requires-2 : goal.copy_in-requires-2
copy_in-requires-2 c =
    let n4 : length c.args.h.disk_signature ≡ 4 = search rules in
    omega arith

pub copy_in-requires-3 : goal.copy_in-requires-3
copy_in-requires-3 c =
    let n2 : length c.args.h.copy_protected ≡ 2 = search rules in
    omega arith

pub returns : goal.returns
returns c =
    let n440 : length c.args.h.bootstrap_code ≡ 440 = search rules in
    let n4 : length c.args.h.disk_signature ≡ 4 = search rules in
    front-written c.args.d.now _ _ _ c.args.h n440 n4 c.requires
    c.copy_in.ensures
    c.copy_in-2.ensures
    c.copy_in-3.ensures
