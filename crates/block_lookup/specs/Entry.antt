-- An entry into lent bytes. Assumes nothing.
use Rattle.std.specs.Prelude.{ℕ, List, [], ◌∷◌, leb, length}
use Rattle.std.specs.Prelude.{Option, None, Some}
use Rattle.base.specs.Put.{put}
use Rattle.base.specs.Said.{Said, gives, refuses}
use Rattle.base.specs.Checks.{Check, ◌!◌, checked}
use Rattle.record_entry.specs.declared.MBRPartitionEntry.{MBRPartitionEntry}
use Rattle.block.specs.Block.{entry_part, entry_length}
use Rattle.abi_word.specs.Packed.{nothing}

-- room for an entry, else 19 (rule Z48)
abbrev pub entry_checks : ℕ → List Check
entry_checks room = (19 ! leb entry_length room) ∷ []

-- a refusal; nothing; an entry 0, or 19 for want of room
abbrev pub entry_status : ℕ → Said (Option MBRPartitionEntry) → ℕ
entry_status room (refuses k) = k
entry_status room (gives None) = nothing
entry_status room (gives (Some e)) = checked (entry_checks room) (λ k. k) 0

-- the lent bytes after: only an entry that has room is put there, at the start (rule Z48)
abbrev pub entry_after : List ℕ → Said (Option MBRPartitionEntry) → List ℕ
entry_after out (refuses k) = out
entry_after out (gives None) = out
entry_after out (gives (Some e)) = checked (entry_checks (length out)) (λ _. out) (put out 0 (entry_part e))
