-- Reading and writing a header alone, the header as the bytes that it has in a block. Assumes nothing.
use Rattle.std.specs.Prelude.{ℕ, List, length}
use Rattle.base.specs.Said.{Said, gives, refuses}
use Rattle.base.specs.Checks.{answer}
use Rattle.record_mbr.specs.declared.MBRHeader.{MBRHeader}
use Rattle.block.specs.Block.{header_in}
use Rattle.write_rules.specs.Answers.{header_leaves}
use Rattle.abi_header.specs.HeaderBytesHeader.{length_checks}

-- the header in lent bytes (rule Z67)
abbrev pub lent_header : List ℕ → Said MBRHeader
lent_header b = answer (length_checks (length b)) (header_in b)

-- the lent output after writing: as before if there is no header
abbrev pub header_output : Said MBRHeader → List ℕ → List ℕ → List ℕ
header_output (refuses k) x out = out
header_output (gives h) x out = header_leaves h x out
