use mathlib.Core.Path.{sym, ap, ◌∙◌}
use Rattle.base.specs.Said.{answered}
use Rattle.table_push.specs.Answers.{geometry_in}
use Rattle.abi_address.specs.Slot.{slot_says}
use Rattle.abi_address.proofs.slot_chs.Laws.{put-done, slot-long}
use Rattle.abi_address.proofs.slot_chs.cv_update_chs.Goals as goal

pub returns-in-Ok : goal.returns-in-Ok
returns-in-Ok c =
    let g = geometry_in c.args.cylinders c.args.heads c.args.sectors in
    let e = sym c.updated.ensures ∙ ap answered c.in-Ok.is in
    let both = put-done (slot_says g c.args.slot.now) _ _ c.args.slot.now _ _ e (slot-long g c.args.slot.now _ e) c.tag_of.ensures c.put_slot.ensures c.put8.ensures in
    record { said = both.0; left = both.1 }
