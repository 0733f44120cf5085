use borrow.Author.Rules.{rules}
use lib.ListN.{length}
use mathlib.Core.Path.{◌≡◌}
use Rattle.block_write.proofs.parts_out.put_sign.Goals as goal

-- the signature has 2 bytes
pub returns : goal.returns
returns c =
    let long : length c.args.h.boot_signature ≡ 2 = search rules in
    (c.copy_in.ensures, long)
