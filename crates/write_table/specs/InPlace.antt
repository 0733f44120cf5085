-- A block after its table was written over an extract. Assumes nothing.
use Rattle.std.specs.Prelude.{ℕ, List}
use Rattle.base.specs.Said.{Said, gives, and_then}
use Rattle.table.specs.declared.MBR.{MBR}
use Rattle.table.specs.Table.{extended_in}
use Rattle.write_rules.specs.Answers.{write_says}
use Rattle.write_block.specs.Written.{left_in}

-- the block as writing leaves it, or a refusal
abbrev pub written_on : List ℕ → List ℕ → ℕ → MBR → Said (List ℕ)
written_on b x room t = and_then (write_says t x room) (λ _. gives (left_in (extended_in t) b t))
