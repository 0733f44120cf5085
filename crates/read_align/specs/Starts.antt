-- The used starts of a header and of the partitions of some records. Assumes nothing.
use Rattle.std.specs.Prelude.{ℕ, List, ◌++◌, map}
use Rattle.record_mbr.specs.declared.MBRHeader.{MBRHeader}
use Rattle.record_mbr.specs.Mbr.{primaries}
use Rattle.chain.specs.Walk.{part_in}
use Rattle.read_align.specs.Align.{used_starts}

-- the starts of the used entries of the header and of the partitions of the records of these numbers (rule A7)
abbrev pub starts_found : List ℕ → MBRHeader → List ℕ → List ℕ
starts_found x h is = used_starts (primaries h ++ map (part_in x) is)
