use mathlib.Core.Path.{sym, ◌∙◌}
use Rattle.write_rules.proofs.as_written.Laws.{held_first, held-later}
use Rattle.write_logicals.proofs.in_slots.ebr_place.Goals as goal

pub returns-then-i-eq0 : goal.returns-then-i-eq0
returns-then-i-eq0 c =
    sym (held_first c.args.b.now c.requires.0 c.args.x c.args.i c.requires.1 c.if-i-eq0.true)

pub returns : goal.returns
returns c =
    c.ebr_lba.ensures ∙ sym (held-later c.args.b.now c.requires.0 c.args.x c.args.i c.requires.1 c.if-i-eq0.false)
