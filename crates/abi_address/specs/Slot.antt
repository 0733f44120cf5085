-- update_chs on a logical partition that is handed in alone, as a slot and its tag. Assumes nothing.
use Rattle.std.specs.Prelude.{ℕ, ◌+◌, List, [], ◌∷◌, ◌++◌, eqb, length, get_or}
use Rattle.base.specs.Said.{Said, gives, refuses, and_then}
use Rattle.base.specs.Checks.{Check, ◌!◌, answer}
use Rattle.table.specs.declared.LogicalPartition.{LogicalPartition}
use Rattle.block.specs.Block.{slot_length, slot_part, slot_of, tag_of, possible}
use Rattle.table_address.specs.declared.Geometry.{Geometry}
use Rattle.table_address.specs.Address.{update_chs}

-- the tag stands behind the slot
abbrev pub alone_tag : List ℕ → ℕ
alone_tag s = get_or s slot_length 0

-- the bytes of a slot and its tag
abbrev pub alone_length : ℕ
alone_length = slot_length + 1

-- another length 101, an impossible tag 102 (rule Z70)
abbrev pub slot_checks : List ℕ → List Check
slot_checks s = (101 ! eqb (length s) alone_length) ∷ (102 ! possible (alone_tag s)) ∷ []

-- the partition with its four addresses, or a refusal: the slot's, then those of the addresses
abbrev pub slot_says : Geometry → List ℕ → Said LogicalPartition
slot_says g s = and_then (answer (slot_checks s) (slot_of (alone_tag s) s)) (update_chs g)

-- the lent slot afterwards: a refusal leaves it as it was (rule Z70)
abbrev pub slot_after : List ℕ → Said LogicalPartition → List ℕ
slot_after s (refuses k) = s
slot_after s (gives l) = slot_part l ++ (tag_of l ∷ [])
