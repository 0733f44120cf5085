-- The first-place rule; the stores of a push and of a removal. Assumes nothing.
use Rattle.std.specs.Prelude.{ℕ, zero, suc, ◌+◌, ◌-◌, List, [], ◌∷◌, ◌++◌, length, take, drop}
use Rattle.std.specs.Prelude.{None, Some}
use Rattle.base.specs.Row.{next}
use Rattle.record_entry.specs.declared.MBRPartitionEntry.{MBRPartitionEntry}
use Rattle.extract.specs.Disk.{Store}
use Rattle.table.specs.declared.LogicalPartition.{LogicalPartition}
use Rattle.chain.specs.Links.{write}
use Rattle.careful_stores.specs.Order.{earlier, later_one}
unfoldable pub use Rattle.careful_stores.specs.Stored.{wipe, moved}
unfoldable pub use Rattle.careful_stores.specs.Order.{last_logical, last_listed}

-- rule K22, the first-place rule: so is the first logical after the change
unfoldable pub first_in_place : MBRPartitionEntry → List LogicalPartition → List LogicalPartition
first_in_place e [] = []
first_in_place e (l ∷ ls) = moved e l ∷ ls

-- the list without the one at place i, counted from 0
unfoldable pub left_out : List LogicalPartition → ℕ → List LogicalPartition
left_out ls i = take i ls ++ drop (i + 1) ls

-- the list without its last one, and that put behind the first k (rule K31)
unfoldable pub last_moved : ℕ → List LogicalPartition → List LogicalPartition
last_moved k ls = take k (take (length ls - 1) ls) ++ last_listed ls ∷ drop k (take (length ls - 1) ls)

-- rules K16 to K18: into an empty chain one record at X; else the new EBR with its link to what follows, then the EBR before it with a link to the new one (rule K17)
unfoldable pub push_stores : MBRPartitionEntry → ℕ → List LogicalPartition → LogicalPartition → List Store
push_stores e p [] new = write e (moved e new) None ∷ []
push_stores e p (l ∷ ls) new = write e new (later_one p (l ∷ ls)) ∷ write e (earlier p (l ∷ ls)) (Some new) ∷ []

-- rule V7: the EBR before the one at place i of those behind l
unfoldable pub skip_store : MBRPartitionEntry → LogicalPartition → List LogicalPartition → ℕ → Store
skip_store e l [] i = write e l None
skip_store e l (y ∷ ms) zero = write e l (next ms None)
skip_store e l (y ∷ ms) (suc i) = skip_store e y ms i

-- rules V7 and V11: the EBR before it; for the first, X now describes the second; for the only one, zeros at X
unfoldable pub remove_store : MBRPartitionEntry → List LogicalPartition → ℕ → Store
remove_store e [] i = wipe e
remove_store e (y ∷ []) zero = wipe e
remove_store e (y ∷ m ∷ ms) zero = write e (moved e m) (next ms None)
remove_store e (l ∷ ls) (suc i) = skip_store e l ls i
