-- The free runs of a table for a lent output. Assumes nothing.
use Rattle.std.specs.Prelude.{ℕ, ◌*◌, List, length}
use Rattle.base.specs.Put.{put}
use Rattle.base.specs.Said.{Said, gives, refuses, and_then}
use Rattle.table.specs.declared.MBR.{MBR}
use Rattle.table_free.specs.declared.Run.{Run}
use Rattle.table_free.specs.Free.{free, for_room, most_runs}
use Rattle.block_free.specs.Runs.{runs_part}

-- the bytes of the most runs
abbrev pub run_bytes : ℕ
run_bytes = 8 * most_runs

-- runs for a lent output of this length: room for the most is asked, 19 (rule Z55)
abbrev pub in_room : Said (List Run) → ℕ → Said (List Run)
in_room v room = for_room run_bytes room v

-- the free runs of a table: its refusals, the search's, 19
abbrev pub runs_for : Said MBR → ℕ → Said (List Run)
runs_for s room = and_then s (λ t. in_room (free t) room)

-- how many there are (rule Z55)
abbrev pub how_many : Said (List Run) → Said ℕ
how_many v = and_then v (λ rs. gives (length rs))

-- the lent output afterwards: the runs stand first, the rest is as it was; all of it after a refusal
abbrev pub runs_after : List ℕ → Said (List Run) → List ℕ
runs_after out (refuses k) = out
runs_after out (gives rs) = put out 0 (runs_part rs)
