-- The partition that holds a sector: primaries in order, then logical partitions if the hit is extended. Assumes nothing.
use Rattle.std.specs.Prelude.{ℕ, [], ◌∷◌}
use Rattle.std.specs.Prelude.{Option, None, Some}
use Rattle.base.specs.Pick.{pick}
use Rattle.base.specs.Said.{Said, gives, refuses, and_then}
use Rattle.base.specs.Checks.{checked}
use Rattle.table.specs.Table.{count_check}
use Rattle.record_entry.specs.Entry.{extended}
use Rattle.record_mbr.specs.Mbr.{primaries}
use Rattle.table.specs.declared.MBR.{MBR}
use Rattle.table_lookup.specs.declared.hits.Numbered.{Numbered}
use Rattle.table_lookup.specs.Hits.{first_at, among_logicals}

abbrev pub number_in : Option Numbered → Option ℕ
number_in None = None
number_in (Some h) = Some h.number

-- the number that a search answers
abbrev pub number_of : Said (Option Numbered) → Said (Option ℕ)
number_of found = and_then found (λ o. gives (number_in o))

-- an extended entry is never answered: a hit of it turns to the logical partitions (rule L12)
abbrev pub turned : MBR → ℕ → Option Numbered → Said (Option ℕ)
turned t s None = gives None
turned t s (Some h) = pick (extended h.entry.sys) (number_of (among_logicals t s)) (gives (Some h.number))

-- 6, then the search (rules G5 and Z48)
unfoldable pub find_says : MBR → ℕ → Said (Option ℕ)
find_says t s = checked (count_check t ∷ []) refuses (and_then (first_at s 1 (primaries t.header)) (turned t s))
