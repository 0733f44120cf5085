use borrow.Author.Rules.{rules}
use Rattle.base.proofs.Put.{put_whole}
use Rattle.record_mbr.proofs.Laws.{long-there}
use lib.ListN.{length}
use mathlib.Core.Path.{◌≡◌, sym, ◌∙◌}
use lib.ListN.{replicate, length-replicate}
use Prim.Native.Nat.{ℕ}
use Rattle.record_mbr.specs.Mbr.{mbr_bytes}
use Rattle.write_table.proofs.header_record.Goals as goal

pub returns : goal.returns
returns c =
    let n440 : length c.args.h.bootstrap_code ≡ 440 = search rules in
    let n4 : length c.args.h.disk_signature ≡ 4 = search rules in
    let n2 : length c.args.h.copy_protected ≡ 2 = search rules in
    c.write_all.ensures ∙ put_whole (replicate 512 0) (mbr_bytes c.args.h) (length-replicate {A = ℕ} 512 0 ∙ sym (long-there c.args.h n440 n4 n2))
