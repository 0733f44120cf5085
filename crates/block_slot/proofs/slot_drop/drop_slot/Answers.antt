use Rattle.block_slot.proofs.slot_drop.Down.{dropped-at}
use Rattle.block_slot.proofs.slot_drop.drop_slot.Goals as goal

pub returns : goal.returns
returns c =
    dropped-at c.args.b.now _ _ _ c.args.n c.args.k _ _ c.requires.0 c.requires.1 c.requires.2 c.slot_at.ensures c.tag_at.ensures c.put32.ensures c.move_down.ensures c.move_down-2.ensures
