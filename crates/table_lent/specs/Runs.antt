-- Free runs in a list that the caller lends: the array form's refusals, then 19 for fewer than thirty; the runs found stand first, the rest is as it was. Assumes nothing.
use Rattle.std.specs.Prelude.{ℕ, List, [], ◌++◌, length, drop}
use Rattle.base.specs.Said.{Said, gives, and_then, value_or}
use Rattle.table.specs.declared.MBR.{MBR}
use Rattle.table_free.specs.declared.Run.{Run}
use Rattle.table_free.specs.Free.{free, for_room, most_runs}

-- rule F26: the runs of a table for a list of n
unfoldable pub free_for : MBR → ℕ → Said (List Run)
free_for t n = for_room most_runs n (free t)

-- rule F28: runs in the place of as many first elements of a list
unfoldable pub first : List Run → List Run → List Run
first rs l = rs ++ drop (length rs) l

-- rule F28: what is answered, the number of runs
abbrev pub free_count : MBR → ℕ → Said ℕ
free_count t n = and_then (free_for t n) (λ rs. gives (length rs))

-- rule F28: the lent list afterwards, a refusal leaves it as it was
abbrev pub free_list : MBR → List Run → List Run
free_list t l = first (value_or [] (free_for t (length l))) l
