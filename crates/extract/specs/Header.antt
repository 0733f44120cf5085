-- The header of an extract. Assumes nothing.
use Rattle.std.specs.Prelude.{ℕ, ◌+◌, ◌*◌, List, ◌++◌}
use Rattle.base.specs.Bytes.{bytes_of, little}

-- the header of an extract of n records, for d sectors of a size
unfoldable pub header_bytes : ℕ → ℕ → ℕ → List ℕ
header_bytes size d n =
    bytes_of little 4 size ++
    bytes_of little 4 d ++
    bytes_of little 4 n ++
    bytes_of little 4 24 ++
    bytes_of little 4 (24 + n * 4) ++
    bytes_of little 4 (24 + n * 516)
