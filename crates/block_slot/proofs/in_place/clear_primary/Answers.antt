use mathlib.Core.Path.{ap, ◌∙◌}
use Prim.Native.Nat.{◌+◌, ◌-◌, ◌*◌}
use Rattle.base.specs.Put.{put}
use Rattle.record_entry.specs.declared.MBRPartitionEntry.{MBRPartitionEntry}
use Rattle.block.specs.Block.{entry_part, entry_length}
use Rattle.block_slot.specs.Changed.{without_entry}
use Rattle.block_slot.proofs.in_place.clear_primary.Goals as goal

pub returns : goal.returns
unfolding without_entry
returns c =
    c.put_entry.ensures ∙ ap (λ (e : MBRPartitionEntry). put c.args.b.now (466 + entry_length * (c.args.i - 1)) (entry_part e)) c.empty.ensures
