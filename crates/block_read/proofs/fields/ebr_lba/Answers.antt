use Rattle.block.specs.Block.{slot_of, tag_at}
use Rattle.block.proofs.Inside.{slot-in}
use mathlib.Core.List.{List}
use mathlib.Core.Path.{sym, ap, ◌∙◌}
use Prim.Native.Nat.{ℕ}
use Rattle.table.specs.declared.LogicalPartition.{LogicalPartition}
use Rattle.block_read.proofs.fields.ebr_lba.Goals as goal

pub returns : goal.returns
returns c =
    let p = ap (λ (s : List ℕ). (slot_of (tag_at c.args.b.now c.args.i) s).absolute_ebr_lba.0) c.slot_bytes.ensures.0 in
    c.get32.ensures ∙ p ∙ sym (ap (λ (l : LogicalPartition). l.absolute_ebr_lba.0) (slot-in c.args.b.now c.args.i c.requires.1))
