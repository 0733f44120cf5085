-- The listing of a table: `disk D align A logical N`, then the used entries. Assumes nothing.
use Rattle.std.specs.Prelude.{ℕ, ◌+◌, ◌*◌, List, [], ◌∷◌, ◌++◌, leb}
use Rattle.base.specs.Said.{Said, gives, refuses}
use Rattle.record_mbr.specs.Mbr.{primaries}
use Rattle.table.specs.declared.MBR.{MBR}
use Rattle.table.specs.Table.{count_check, most, logicals, parts}
use Rattle.base.specs.Checks.{Check, ◌!◌}
use Rattle.read_table.specs.Read.{Table, table_of, read_says}
use Rattle.read_listing.specs.Words.{first_line, refused_text}
use Rattle.read_listing.specs.Lines.{entry_lines}

-- a table's listing (rule T1)
unfoldable pub table_text : MBR → List ℕ
table_text t = first_line t.disk_size t.align t.count ++ entry_lines 1 (primaries t.header) ++ entry_lines 5 (parts (logicals t))

-- what is printed for an extract (rule T12)
abbrev pub said_text : Said Table → List ℕ
said_text (gives t) = table_text (table_of t)
said_text (refuses k) = refused_text k

unfoldable pub listing : List ℕ → List ℕ
listing x = said_text (read_says x)

-- the bytes that a line needs, and a listing: a line for each logical partition, and eight more
abbrev pub line_room : ℕ
line_room = 64

abbrev pub room : ℕ
room = line_room * (most + 8)

-- too many logical partitions 6, lent output too short 19 (rule T14)
abbrev pub table_list_checks : MBR → ℕ → List Check
table_list_checks t n = count_check t ∷ (19 ! leb room n) ∷ []

-- lent output too short 19 (rule T14)
abbrev pub listing_checks : ℕ → List Check
listing_checks n = (19 ! leb room n) ∷ []
