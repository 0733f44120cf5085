use mathlib.Core.List.{List}
use mathlib.Core.Path.{refl, ap, ◌∙◌}
use native.Mathlib.Omega.{arith}
use Rattle.base.specs.All.{All}
use Rattle.extract.specs.declared.Extract.{Extract}
use Rattle.extract_lay.proofs.plan.Laws.{planned-of}
use Rattle.table.specs.declared.LogicalPartition.{LogicalPartition}
use Rattle.block.specs.Block.{table_in}
use Rattle.write_rules.specs.AsWritten.{as_written_in}
use Rattle.write_rules.specs.Sources.{CodeLong}
use Rattle.write_rules.proofs.sources.Laws.{codes-held}
use Rattle.write_extract.proofs.Room.{room-many, room-short, room-fine}
use Rattle.write_extract.proofs.put_table.Goals as goal

pub returns-then-c-gt-RECORDS : goal.returns-then-c-gt-RECORDS
returns-then-c-gt-RECORDS c =
    let ls : List LogicalPartition = as_written_in (table_in c.args.b.now) c.args.e.starting_lba in
    let codes : All CodeLong ls = codes-held c.args.b.now c.requires.passed.0 c.args.e.starting_lba in
    room-many c.args.x.now c.args.k.count c.args.m c.args.first.now ls c.args.e c.requires.writing.0 codes _ (c.as_slice-slots.ensures ∙ planned-of c.plan_for-plan.result _ c.plan_for-plan.ensures.0) _ refl c.args.out.now c.if-c-gt-RECORDS.true _ refl

pub returns-then-out-total : goal.returns-then-out-total
returns-then-out-total c =
    let ls : List LogicalPartition = as_written_in (table_in c.args.b.now) c.args.e.starting_lba in
    let codes : All CodeLong ls = codes-held c.args.b.now c.requires.passed.0 c.args.e.starting_lba in
    room-short c.args.x.now c.args.k.count c.args.m c.args.first.now ls c.args.e c.requires.writing.0 codes _ (c.as_slice-slots.ensures ∙ planned-of c.plan_for-plan.result _ c.plan_for-plan.ensures.0) _ refl c.args.out.now c.if-c-gt-RECORDS.false c.if-out-total.true _ refl

pub put_records-requires : goal.put_records-requires
put_records-requires c =
    record { writing = (c.requires.writing.0, c.as_slice-slots.ensures ∙ planned-of c.plan_for-plan.result _ c.plan_for-plan.ensures.0); passed = c.requires.passed; count_le_most_records = (c.if-c-gt-RECORDS.false, omega (arith, c.if-c-gt-RECORDS.false), omega (arith, c.if-out-total.false)) }

pub returns : goal.returns
returns c =
    let ls : List LogicalPartition = as_written_in (table_in c.args.b.now) c.args.e.starting_lba in
    let codes : All CodeLong ls = codes-held c.args.b.now c.requires.passed.0 c.args.e.starting_lba in
    room-fine c.args.x.now c.args.k.count c.args.m c.args.first.now ls c.args.e c.requires.writing.0 codes _ (c.as_slice-slots.ensures ∙ planned-of c.plan_for-plan.result _ c.plan_for-plan.ensures.0) _ refl c.args.out.now c.if-c-gt-RECORDS.false c.if-out-total.false _ _ _ _ _ (ap (λ (j : Extract). j.sector_size) c.requires.writing.1) (ap (λ (j : Extract). j.disk_size) c.requires.writing.1) c.put_header.ensures c.put_lbas.ensures c.put_records.ensures _ refl
