use Rattle.block_read.proofs.fields.Laws.{is-first, goes_on, at-end}
use Rattle.block.specs.Block.{table_in}
use Rattle.record_entry.specs.declared.MBRPartitionEntry.{MBRPartitionEntry}
use Rattle.record_entry.specs.Entry.{extended}
use Rattle.record_mbr.specs.Mbr.{primaries}
use mathlib.Core.Path.{sym, ap, ◌∙◌}
use Rattle.std.specs.Prelude.{Some}
use borrow.Author.Rules.{rules}
use Rattle.block_read.proofs.fields.extended.Goals as goal

pub returns-then-is_extended : goal.returns-then-is_extended
returns-then-is_extended c =
    let t = table_in c.args.b.now in
    let x = ap (λ (e : MBRPartitionEntry). extended e.sys) (sym c.primary-e.ensures) ∙ sym c.is_extended.ensures ∙ c.if-is_extended.true in
    ap Some c.primary-e.ensures ∙ sym (c.loop-i.invariant.1 ∙ is-first (primaries t.header) c.loop-i.i c.loop-i-test.true x)

pub loop-i-preserved : goal.loop-i-preserved
loop-i-preserved c =
    let t = table_in c.args.b.now in
    let x = ap (λ (e : MBRPartitionEntry). extended e.sys) (sym c.primary-e.ensures) ∙ sym c.is_extended.ensures ∙ c.if-is_extended.false in
    (search rules, c.loop-i.invariant.1 ∙ goes_on (primaries t.header) c.loop-i.i c.loop-i-test.true x)

pub returns : goal.returns
returns c =
    let t = table_in c.args.b.now in
    sym (c.loop-i.invariant.1 ∙ at-end (primaries t.header) c.loop-i.i c.loop-i-test.false)
