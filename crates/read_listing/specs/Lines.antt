-- The lines of the used entries of a table. Assumes nothing.
use Rattle.std.specs.Prelude.{ℕ, ◌+◌, List, [], ◌∷◌, ◌++◌}
use Rattle.base.specs.Pick.{pick}
use Rattle.record_entry.specs.declared.MBRPartitionEntry.{MBRPartitionEntry}
use Rattle.record_entry.specs.Entry.{used}
use Rattle.read_listing.specs.Text.{decimal, hex, spaced, newline}

-- number, type and flag, start, sectors (rule T1)
unfoldable pub entry_line : ℕ → MBRPartitionEntry → List ℕ
entry_line n e =
    decimal n ++ spaced (hex e.sys) ++ spaced (hex e.boot) ++ spaced (decimal e.starting_lba) ++ spaced (decimal e.sectors) ++ newline

-- nothing for an unused entry (rule T1)
abbrev pub used_line : ℕ → MBRPartitionEntry → List ℕ
used_line n e = pick (used e.sys) (entry_line n e) []

-- the lines of the used entries, numbered from n on
unfoldable pub entry_lines : ℕ → List MBRPartitionEntry → List ℕ
entry_lines n [] = []
entry_lines n (e ∷ es) = used_line n e ++ entry_lines (n + 1) es
