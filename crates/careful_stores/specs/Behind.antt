-- What a careful change answers, and the stores of a new partition among others. Assumes nothing.
use Rattle.base.specs.declared.Refusal.{Refusal}
use Rattle.std.specs.Prelude.{ℕ, ◌≡◌, List, [], ◌∷◌, length, Result}
use Rattle.std.specs.Prelude.{Option, None, Some}
use Rattle.base.specs.Put.{put}
use Rattle.base.specs.Said.{answered}
use Rattle.base.specs.Checks.{Check, checked, answer}
use Rattle.record_entry.specs.declared.MBRPartitionEntry.{MBRPartitionEntry}
use Rattle.extract.specs.Disk.{Store}
use Rattle.table.specs.declared.LogicalPartition.{LogicalPartition}
use Rattle.chain.specs.Links.{write}
use Rattle.careful_stores.specs.Stored.{moved, stores_bytes}
use Rattle.careful_stores.specs.Linked.{link_behind, linked_store}
use Rattle.careful_stores.specs.declared.push_writer.Between.{Between}

-- the answer and the lent bytes, before and after, of a change with these refusals and stores
abbrev pub Tells : Result ℕ Refusal → List ℕ → List ℕ → List Check → List Store → Type 0
Tells r old new cs ss = (answered r ≡ answer cs (length ss)) × (new ≡ checked cs (λ k. old) (put old 0 (stores_bytes ss)))

-- into an empty chain one record at X; else the new EBR with its link to what follows, then the EBR before it with a link to the new one (rules K16 to K18)
abbrev pub stores_behind : MBRPartitionEntry → MBRPartitionEntry → LogicalPartition → Option LogicalPartition → List Store
stores_behind e link new None = write e (moved e new) None ∷ []
stores_behind e link new (Some l) = linked_store new link ∷ linked_store l (link_behind e (Some new)) ∷ []

abbrev pub stores_between : MBRPartitionEntry → Between → LogicalPartition → List Store
stores_between e b new = stores_behind e b.link new b.earlier
