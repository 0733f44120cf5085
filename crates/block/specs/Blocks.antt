-- A table in a lent block: what is said of it, and the block after a call that changes it. Assumes nothing.
use Rattle.std.specs.Prelude.{ℕ, List}
use Rattle.base.specs.Said.{Said, gives, and_then, failure, value_or}
use Rattle.base.specs.Checks.{answer}
use Rattle.table.specs.declared.MBR.{MBR}
use Rattle.abi_word.specs.Packed.{status}
use Rattle.block.specs.Block.{table_in, block_checks}

-- rule Z24: the table in a lent block, 101, 6, 102
abbrev pub block_says : List ℕ → Said MBR
block_says b = answer (block_checks b) (table_in b)

-- rule Z19: the number of a refusal, or 0
abbrev pub refusal_number : {A : Type 0} → Said A → ℕ
refusal_number s = status (failure s)

-- rule G3: a block after a call that changes it where it lies, as before if it is refused
abbrev pub bytes_after : List ℕ → (MBR → Said (List ℕ)) → List ℕ
bytes_after b f = value_or b (and_then (block_says b) f)

-- the table in it
abbrev pub table_after : List ℕ → (MBR → MBR) → Said MBR
table_after b f = and_then (block_says b) (λ t. gives (f t))
