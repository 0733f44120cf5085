-- Writing a table that is handed in as a block; it is left in it as writing leaves it. Assumes nothing.
use Rattle.std.specs.Prelude.{ℕ, List}
use Rattle.base.specs.Said.{Said, gives, refuses, and_then}
use Rattle.table.specs.declared.MBR.{MBR}
use Rattle.write_rules.specs.Answers.{write_says, write_leaves}

-- the length of the new extract, or a refusal: the table's, then writing's
abbrev pub length_of : Said MBR → List ℕ → ℕ → Said ℕ
length_of s x room = and_then s (λ t. write_says t x room)

-- the lent output after writing: as before if there is no table
abbrev pub table_output : Said MBR → List ℕ → List ℕ → List ℕ
table_output (refuses k) x out = out
table_output (gives t) x out = write_leaves t x out
