use mathlib.Core.Path.{ap, ◌∙◌}
use native.Mathlib.Omega.{arith}
use mathlib.Core.List.{List}
use Prim.Native.Nat.{ℕ}
use Rattle.record_entry.specs.declared.MBRPartitionEntry.{MBRPartitionEntry}
use Rattle.record_entry.specs.Entry.{entry_at}
use Rattle.read_chain.proofs.logicals.part_at.Goals as goal

pub overflow_add-p : goal.overflow_add-p
overflow_add-p c =
    let e = ap (λ (y : MBRPartitionEntry). y.starting_lba) (c.read-p.ensures ∙ ap (λ (r : List ℕ). entry_at r 446) c.record_at.ensures) in
    omega arith

pub returns : goal.returns
returns c = rw (c.read-p.ensures, c.place_of-at.ensures, c.record_at.ensures)
