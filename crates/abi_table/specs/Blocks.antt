-- The library's own answers, with tables as blocks. Assumes nothing.
use Rattle.std.specs.Prelude.{ℕ, List}
use Rattle.base.specs.Said.{Said, gives, and_then}
use Rattle.table.specs.declared.MBR.{MBR}
use Rattle.read_table.specs.Read.{Table, table_of, read_says}

-- the table that an extract reads as
abbrev pub of_value : Said Table → Said MBR
of_value s = and_then s (λ t. gives (table_of t))

-- rule Z33
abbrev pub table_says : List ℕ → Said MBR
table_says x = of_value (read_says x)
