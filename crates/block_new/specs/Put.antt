-- A table that is put into a lent block. Assumes nothing.
use Rattle.std.specs.Prelude.{ℕ, List, length}
use Rattle.base.specs.Said.{Said, gives, refuses, and_then}
use Rattle.base.specs.Checks.{checked, answer}
use Rattle.table.specs.declared.MBR.{MBR}
use Rattle.block.specs.Block.{block_bytes, put_checks}

-- a table that is put into a lent block of this length: 6, 101
abbrev pub alone : ℕ → Said MBR → Said ℕ
alone room s = and_then s (λ t. answer (put_checks t room) 0)

-- a lent block after a table is put there: as before if there is none, or if it is refused
abbrev pub block_after : List ℕ → Said MBR → List ℕ
block_after out (refuses k) = out
block_after out (gives t) = checked (put_checks t (length out)) (λ _. out) (block_bytes t)
