-- An entry into lent bytes, by what is said of it. Assumes nothing.
use mathlib.Core.Path.{◌≡◌, sym, ap, ◌∙◌}
use mathlib.Core.List.{List}
use Rattle.std.specs.Prelude.{Option}
use Prim.Native.Nat.{ℕ}
use lib.ListN.{length}
use Rattle.base.specs.Said.{Said}
use Rattle.record_entry.specs.declared.MBRPartitionEntry.{MBRPartitionEntry}
use Rattle.block_lookup.specs.Entry.{entry_status, entry_after}

pub entry-is : (s z : Said (Option MBRPartitionEntry)) (r : ℕ) (out new : List ℕ) → s ≡ z → r ≡ entry_status (length out) z → new ≡ entry_after out z
    → (r ≡ entry_status (length out) s) × (new ≡ entry_after out s)
entry-is s z r out new e p q = (p ∙ sym (ap (entry_status (length out)) e), q ∙ sym (ap (entry_after out) e))
