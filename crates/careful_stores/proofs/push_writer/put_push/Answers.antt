use Rattle.careful_stores.proofs.push_writer.Laws.{first-stored, later-stored}
use Rattle.careful_stores.proofs.push_writer.put_push.Goals as goal

pub returns-in-None-clause-out_after : goal.returns-in-None-clause-out_after
returns-in-None-clause-out_after c =
    first-stored c.args.out.now c.args.e c.args.b c.args.new _ _ _ c.empty.ensures c.in-None.is c.move_first.ensures c.put_ebr.ensures.0

pub returns-in-Some-clause-out_after : goal.returns-in-Some-clause-out_after
returns-in-Some-clause-out_after c =
    later-stored c.args.out.now c.args.e c.args.b c.args.new _ _ c.in-Some.earlier _ c.in-Some.is c.link_to.ensures c.requires c.put_ebr-in-Some.ensures
    c.put_ebr-in-Some-2.ensures.0
