use mathlib.Core.Path.{sym, ◌∙◌}
use lib.ListN.{get_or}
use borrow.Author.Rules.{rules}
use Rattle.table.specs.Table.{logicals, no_logical}
use Rattle.table_push.specs.Push.{geometry_of}
use Rattle.block.specs.Block.{table_in}
use Rattle.write_rules.specs.AsWritten.{slot_geometry, first_at_start, as_written_in}
use Rattle.write_rules.proofs.as_written.Laws.{held_none}
use Rattle.write_rules.proofs.Said.{answered-ok, ok-injective}
use Rattle.write_logicals.proofs.addressed.written_slot.Goals as goal

pub unwrap-requires : goal.unwrap-requires
unwrap-requires c =
    let t = table_in c.args.b.now in
    let e = answered-ok (slot_geometry (geometry_of t) (get_or (first_at_start c.args.x (logicals t)) c.args.i no_logical)) (get_or (as_written_in t c.args.x) c.args.i no_logical) _ (held_none c.args.b.now c.requires.0 c.args.x c.args.i c.requires.1 c.requires.2) c.addressed_slot.ensures in
    rw e (search rules)

pub returns : goal.returns
returns c =
    let t = table_in c.args.b.now in
    let e = answered-ok (slot_geometry (geometry_of t) (get_or (first_at_start c.args.x (logicals t)) c.args.i no_logical)) (get_or (as_written_in t c.args.x) c.args.i no_logical) _ (held_none c.args.b.now c.requires.0 c.args.x c.args.i c.requires.1 c.requires.2) c.addressed_slot.ensures in
    ok-injective (sym c.unwrap.ensures ∙ e)
