-- Runs as bytes. Assumes nothing.
use Rattle.std.specs.Prelude.{ℕ, List, ◌++◌}
use Rattle.base.specs.Bytes.{bytes_of, little}
use Rattle.extract_lay.specs.Plan.{pieces}
use Rattle.table_free.specs.declared.Run.{Run}

-- a run of 8 bytes: start and length (rule Z55)
abbrev pub run_part : Run → List ℕ
run_part r = bytes_of little 4 r.start ++ bytes_of little 4 r.length

-- one run behind the other
abbrev pub runs_part : List Run → List ℕ
runs_part rs = pieces run_part rs
