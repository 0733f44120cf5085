use Rattle.block_free.proofs.search.Laws.{four}
use Rattle.block.specs.Block.{table_in}
use Rattle.block.proofs.Inside.{disk-in}
use Rattle.table_free.specs.Free.{primary_zones, positions}
use Rattle.record_entry.specs.declared.MBRPartitionEntry.{MBRPartitionEntry}
use Rattle.record_mbr.specs.Mbr.{primaries}
use Prim.Native.Nat.{ℕ}
use mathlib.Core.List.{List}
use mathlib.Core.Path.{sym, ap, ◌∙◌}
use Rattle.block_free.proofs.search.primary_points.Goals as goal

pub returns-clause-said : goal.returns-clause-said
returns-clause-said c =
    let t = table_in c.args.b.now in
    let e = four t.header _ _ _ _ c.primary-one.ensures c.primary-two.ensures c.primary-three.ensures c.primary-four.ensures in
    c.primary_points.ensures.said ∙ ap (λ (es : List MBRPartitionEntry). positions 0 c.get32.result (primary_zones es)) e
    ∙ ap (λ (x : ℕ). positions 0 x (primary_zones (primaries t.header))) (c.get32.ensures ∙ sym (disk-in c.args.b.now))
