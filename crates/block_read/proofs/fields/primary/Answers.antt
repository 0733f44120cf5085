use Rattle.block.specs.Block.{entry_from, entry_length}
use Rattle.block.proofs.Inside.{primary-in}
use mathlib.Core.List.{List}
use mathlib.Core.Path.{sym, ap, ◌∙◌}
use Prim.Native.Nat.{ℕ, ◌+◌, ◌*◌}
use Rattle.block_read.proofs.fields.primary.Goals as goal

pub returns : goal.returns
returns c =
    let p = ap (λ (s : List ℕ). entry_from s (446 + entry_length * c.args.i)) c.part_of.ensures.0 in
    c.get_entry.ensures ∙ p ∙ sym (primary-in c.args.b.now c.args.i c.requires.1)
