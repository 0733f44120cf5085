-- A push's start and sectors rounded, and the refusals of its place. Assumes nothing.
use Rattle.std.specs.Prelude.{ℕ, ◌+◌, ◌*◌, ◌-◌, List, [], ◌∷◌, Bool, ltb, leb}
use Rattle.base.specs.Pick.{pick}
use Rattle.base.specs.Checks.{Check, ◌!◌}
use Rattle.table.specs.Table.{rounded}
use Rattle.record_entry.specs.declared.MBRPartitionEntry.{MBRPartitionEntry}
use Rattle.record_entry.specs.Entry.{end_of}
use Rattle.table_push.specs.declared.request.Request.{Request}
use Rattle.table_address.specs.Address.{fits}

-- the new EBR's place, and the sectors from there on
abbrev pub place_of : Request → ℕ
place_of q = rounded q.align q.start

abbrev pub size_of : Request → ℕ
size_of q = rounded q.align q.sectors

-- rule P3: start and size rounded, each 7 for 0, for alignment 0 and for the product
unfoldable pub round_checks : Request → List Check
round_checks q =
    (7 ! ltb 0 q.start) ∷ (7 ! ltb 0 q.align) ∷ (7 ! fits (place_of q)) ∷ (7 ! ltb 0 q.sectors) ∷ (7 ! fits (size_of q)) ∷ []

-- rules P8 to P14: its place in the extended entry e; doubled alignment 7, 9; start + alignment 7, 10; the end less doubled alignment 7, 11
unfoldable pub place_checks : Request → MBRPartitionEntry → List Check
place_checks q e =
    (7 ! fits (2 * q.align))
    ∷ (9 ! leb (2 * q.align) (size_of q))
    ∷ (7 ! fits (place_of q + q.align))
    ∷ (10 ! leb e.starting_lba (place_of q))
    ∷ (7 ! fits (end_of e))
    ∷ (7 ! leb (2 * q.align) (end_of e))
    ∷ (11 ! leb (place_of q) (end_of e - 2 * q.align))
    ∷ []

-- rules P12 and P16: for a later one its end, 7, 12
unfoldable pub end_checks : Bool → Request → MBRPartitionEntry → List Check
end_checks later q e = pick later ((7 ! fits (place_of q + size_of q)) ∷ (12 ! leb (place_of q + size_of q) (end_of e)) ∷ []) []

-- is a partition pushed behind n others a later one
abbrev pub later_than : ℕ → Bool
later_than n = ltb 0 n
