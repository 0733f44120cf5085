use mathlib.Core.Path.{◌≡◌}
use lib.ListN.{length}
use native.Mathlib.Omega.{arith}
use Rattle.block_write.proofs.parts_out.Parts.{code-written}
use borrow.Author.Rules.{rules}
use Rattle.block_write.proofs.parts_out.put_code.Goals as goal

pub copy_in-requires : goal.copy_in-requires
copy_in-requires c = let n : length c.args.h.bootstrap_code ≡ 440 = search rules in
    omega arith

pub copy_in-requires-2 : goal.copy_in-requires-2
copy_in-requires-2 c = let n : length c.args.h.disk_signature ≡ 4 = search rules in
    omega arith

pub copy_in-requires-3 : goal.copy_in-requires-3
copy_in-requires-3 c = let n : length c.args.h.copy_protected ≡ 2 = search rules in
    omega arith

pub returns : goal.returns
returns c = let n : length c.args.h.bootstrap_code ≡ 440 = search rules in
    let m : length c.args.h.disk_signature ≡ 4 = search rules in
    let k : length c.args.h.copy_protected ≡ 2 = search rules in
    code-written c.args.d.now _ _ _ c.args.h n m k c.requires
    c.copy_in.ensures
    c.copy_in-2.ensures
    c.copy_in-3.ensures
