-- A header into lent bytes: the bytes that it has in a block. Assumes nothing.
use Rattle.std.specs.Prelude.{ℕ, List, [], ◌∷◌, eqb}
use Rattle.base.specs.Said.{Said, gives, refuses, and_then}
use Rattle.base.specs.Checks.{Check, ◌!◌, answer}
use Rattle.record_mbr.specs.declared.MBRHeader.{MBRHeader}
use Rattle.block.specs.Block.{header_part, header_length}

-- lent bytes of another length 101 (rule Z67)
abbrev pub length_checks : ℕ → List Check
length_checks n = (101 ! eqb n header_length) ∷ []

-- a header for lent bytes of this length: 101 after its own refusals (rule Z67)
abbrev pub header_for : Said MBRHeader → ℕ → Said MBRHeader
header_for s room = and_then s (λ h. answer (length_checks room) h)

-- the lent bytes afterwards: a refusal leaves them as they were
abbrev pub header_after : List ℕ → Said MBRHeader → List ℕ
header_after out (refuses k) = out
header_after out (gives h) = header_part h
