use mathlib.Core.Path.{sym, ap, ◌∙◌}
use lib.ListN.{get_or}
use Rattle.base.specs.Checks.{answer}
use Rattle.table.specs.declared.LogicalPartition.{LogicalPartition}
use Rattle.table.specs.Table.{logicals, no_logical}
use Rattle.table_address.specs.declared.Geometry.{Geometry}
use Rattle.block.specs.Block.{table_in}
use Rattle.table_push.specs.Push.{geometry_of}
use Rattle.write_rules.specs.AsWritten.{first_at_start, by_geometry, slot_geometry}
use Rattle.write_rules.proofs.as_written.Laws.{settled_at, held_in}
use Rattle.write_logicals.proofs.addressed.addressed_slot.Goals as goal

pub returns : goal.returns
returns c =
    let t = table_in c.args.b.now in
    let q = geometry_of t in
    let l = c.placed_slot-l.result in
    let m = get_or (first_at_start c.args.x (logicals t)) c.args.i no_logical in
    c.with_geometry.ensures
    ∙ ap (λ (g : Geometry). answer (slot_geometry g l) (by_geometry g l)) c.geometry.ensures
    ∙ ap (λ (l : LogicalPartition). answer (slot_geometry q l) (by_geometry q l)) c.placed_slot-l.ensures
    ∙ ap (answer (slot_geometry q m)) (sym (settled_at q c.args.x c.args.i (logicals t) (held_in c.args.b.now c.requires.0 c.args.x c.args.i c.requires.1)))
