use mathlib.Core.Path.{sym, ap, ◌∙◌}
use Rattle.table.specs.Table.{logicals}
use Rattle.block.specs.Block.{table_in}
use Rattle.write_rules.specs.AsWritten.{at_start}
use Rattle.write_rules.proofs.as_written.Laws.{first-here, first-later, held_in, held_at}
use Rattle.write_logicals.proofs.in_slots.placed_slot.Goals as goal

pub returns-then-i-eq0 : goal.returns-then-i-eq0
returns-then-i-eq0 c =
    let ls = logicals (table_in c.args.b.now) in
    c.at_start.ensures
    ∙ ap (at_start c.args.x) (c.slot-l.ensures ∙ sym (held_at c.args.b.now c.requires.0 c.args.x c.args.i c.requires.1))
    ∙ sym (first-here c.args.x c.args.i ls c.if-i-eq0.true (held_in c.args.b.now c.requires.0 c.args.x c.args.i c.requires.1))

pub returns : goal.returns
returns c =
    let ls = logicals (table_in c.args.b.now) in
    c.slot-l.ensures ∙ sym (first-later c.args.x c.args.i ls c.if-i-eq0.false ∙ held_at c.args.b.now c.requires.0 c.args.x c.args.i c.requires.1)
