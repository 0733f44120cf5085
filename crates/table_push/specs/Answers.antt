-- What each answer of the crate says in the numbers of docs/RULES.md; check_geometry, get_cylinder_size. Assumes nothing.
use Rattle.record_chs.specs.declared.CHS.{CHS}
use Rattle.std.specs.Prelude.{ℕ, ◌*◌, [], ◌∷◌, Bool, Option, Some, None}
use Rattle.base.specs.Pick.{pick}
use Rattle.base.specs.Said.{Said}
use Rattle.base.specs.Checks.{answer}
use Rattle.record_chs.specs.Chs.{no_chs}
use Rattle.table.specs.declared.MBR.{MBR}
use Rattle.table.specs.Table.{count_check}
use Rattle.table_address.specs.Address.{complete as is_complete}
use Rattle.table_push.specs.Push.{geometry_of}
use Rattle.table_push.specs.Asked.{later_than}
pub use Rattle.table_address.specs.Answers.{geometry_in}

-- rules U12 and U16: check_geometry and get_cylinder_size of a table, 6 (rule Z52)
abbrev pub check_geometry_says : MBR → Said Bool
check_geometry_says t = answer (count_check t ∷ []) (is_complete (geometry_of t))

-- rule Z52
abbrev pub cylinder_size_says : MBR → Said ℕ
cylinder_size_says t = answer (count_check t ∷ []) (t.heads * t.sectors)

-- only a partition behind others has link sectors and a last link CHS
abbrev pub link_sectors : ℕ → ℕ → Option ℕ
link_sectors n size = pick (later_than n) (Some size) None

abbrev pub link_last : ℕ → Option CHS
link_last n = pick (later_than n) (Some no_chs) None
