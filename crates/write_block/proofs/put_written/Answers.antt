use mathlib.Core.Path.{sym, ap, ◌∙◌}
use Rattle.std.specs.Prelude.{Option}
use Rattle.base.specs.Checks.{first-fail}
use Rattle.record_entry.specs.declared.MBRPartitionEntry.{MBRPartitionEntry}
use Rattle.block.specs.Block.{table_in}
use Rattle.write_rules.specs.Write.{chain_geometry}
use Rattle.write_block.proofs.Laws.{left-none, left-some}
use Rattle.write_block.proofs.put_written.Goals as goal

pub extended-requires : goal.extended-requires
extended-requires c =
    c.requires.0.long

pub put_slots-requires : goal.put_slots-requires
put_slots-requires c =
    let o = sym c.extended.ensures ∙ c.in-Some.is in
    (c.requires.0, ap (λ (o : Option MBRPartitionEntry). first-fail (chain_geometry o (table_in c.args.b.now))) (sym o) ∙ c.requires.1)

pub returns-in-Some : goal.returns-in-Some
returns-in-Some c =
    let both = left-some c.args.b.now c.requires.0 _ _ (sym c.extended.ensures ∙ c.in-Some.is) c.put_slots.ensures.b_after c.put_slots.ensures.slots_fit in
    record { b_after = both.0; b_after_2 = both.1 }

pub returns-in_default : goal.returns-in_default
returns-in_default c =
    let both = left-none c.args.b.now c.requires.0 (sym c.extended.ensures ∙ c.in_default.is) in
    record { b_after = both.0; b_after_2 = both.1 }
