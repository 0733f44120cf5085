-- Push on a block where it lies. Assumes nothing.
use Rattle.std.specs.Prelude.{ℕ, List}
use Rattle.base.specs.Said.{Said, gives, and_then}
use Rattle.table.specs.declared.MBR.{MBR}
use Rattle.block_slot.specs.Changed.{with_slot}
use Rattle.table_push.specs.Asked.{later_than}
use Rattle.table_push.specs.Push.{push_says, new_logical, request_of}

-- push: the new partition's slot behind the others (rule Z34)
abbrev pub pushed_on : List ℕ → ℕ → ℕ → ℕ → MBR → Said (List ℕ)
pushed_on b sys start sectors t =
    and_then (push_says t sys start sectors) (λ _. gives (with_slot b t.count (new_logical (later_than t.count) (request_of t sys start sectors))))
