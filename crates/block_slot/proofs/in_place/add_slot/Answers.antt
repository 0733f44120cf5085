use mathlib.Core.Path.{ap, ◌∙◌}
use mathlib.Core.List.{List}
use Prim.Native.Nat.{ℕ}
use Rattle.block.specs.Block.{slot_put}
use Rattle.block_slot.specs.Changed.{with_slot}
use Rattle.block_slot.proofs.in_place.add_slot.Goals as goal

pub returns : goal.returns
unfolding with_slot
returns c =
    c.put_into.ensures.b_after ∙ ap (λ (x : List ℕ). slot_put x c.args.n c.args.l) c.put32.ensures
