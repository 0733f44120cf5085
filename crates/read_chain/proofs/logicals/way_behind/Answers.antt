use mathlib.Core.Path.{ap, ◌∙◌}
use mathlib.Core.List.{List}
use Prim.Native.Nat.{ℕ}
use Rattle.record_entry.specs.Entry.{entry_at}
use Rattle.chain.specs.Chain.{link_of}
use Rattle.read_chain.proofs.logicals.way_behind.Goals as goal

pub returns : goal.returns
returns c = ap link_of (c.read-link.ensures ∙ ap (λ (r : List ℕ). entry_at r 462) c.record_at.ensures)
