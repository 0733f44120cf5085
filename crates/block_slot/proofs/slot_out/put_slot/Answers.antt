use mathlib.Core.Path.{◌≡◌}
use lib.ListN.{length}
use Rattle.record_ebr.specs.Ebr.{mark_length}
use Rattle.block_slot.proofs.slot_out.Parts.{slot-written}
use borrow.Author.Rules.{rules}
use Rattle.block_slot.proofs.slot_out.put_slot.Goals as goal

-- the code has 446 bytes, the mark 32
pub returns : goal.returns
returns c =
    let code-long : length c.args.l.kept.bootstrap_code ≡ 446 = search rules in
    let mark-long : length c.args.l.kept.mark ≡ mark_length = search rules in
    slot-written c.args.d.now _ _ _ c.args.at c.args.l (record { code = code-long; mark = mark-long }) c.requires
    c.put_slot_front.ensures
    c.copy_in.ensures
    c.copy_in-2.ensures
