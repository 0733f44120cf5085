-- What writing says, the table it answers, and what it leaves in the output. Assumes nothing.
use Rattle.base.specs.declared.Refusal.{Refusal}
use Rattle.std.specs.Prelude.{ℕ, List, [], ◌∷◌, ◌≡◌, length, Result}
use Rattle.std.specs.Prelude.{None}
use Rattle.base.specs.Put.{put}
use Rattle.base.specs.Said.{answered, Said, gives, refuses}
use Rattle.base.specs.Checks.{Check, answer, checked, first-fail}
use Rattle.record_mbr.specs.declared.MBRHeader.{MBRHeader}
use Rattle.table.specs.declared.MBR.{MBR}
use Rattle.table.specs.Table.{extended_in}
use Rattle.write_rules.specs.Write.{header_store, table_stores, write_checks, header_only_checks, left_by, chain_geometry}
use Rattle.write_rules.specs.Records.{extract_over}

-- rule W18: the new extract's length, or the first refusal
unfoldable pub write_says : MBR → List ℕ → ℕ → Said ℕ
write_says t x room = answer (write_checks t x room) (length (extract_over x (table_stores t)))

-- rules G2 and W34: the table as writing leaves it; as given if refused
unfoldable pub write_table : MBR → List ℕ → ℕ → MBR
write_table t x room = checked (write_checks t x room) (λ k. t) (left_by (extended_in t) t)

-- rule W18: the new extract at the start of the output, the rest of it as before; all as before if refused
unfoldable pub write_leaves : MBR → List ℕ → List ℕ → List ℕ
write_leaves t x out = checked (write_checks t x (length out)) (λ k. out) (put out 0 (extract_over x (table_stores t)))

-- rule W43: header only
unfoldable pub header_write_says : MBRHeader → List ℕ → ℕ → Said ℕ
header_write_says h x room = answer (header_only_checks h x room) (length (extract_over x (header_store h ∷ [])))

unfoldable pub header_leaves : MBRHeader → List ℕ → List ℕ → List ℕ
header_leaves h x out = checked (header_only_checks h x (length out)) (λ k. out) (put out 0 (extract_over x (header_store h ∷ [])))

-- an answer by refusals, and the output after it
pub record Put (a : Result ℕ Refusal) (out after : List ℕ) (cs : List Check) (new : List ℕ) : Type 0 where
  pub says : answered a ≡ answer cs (length new)
  pub leaves : after ≡ checked cs (λ k. out) (put out 0 new)

-- the same of writing a table over x
abbrev pub Lays : Result ℕ Refusal → MBR → List ℕ → List ℕ → List ℕ → List Check → Type 0
Lays a t x out after cs = Put a out after cs (extract_over x (table_stores t))

-- the table that an answer leads to
abbrev pub table_by : Said ℕ → MBR → MBR → MBR
table_by (gives n) t u = u
table_by (refuses k) t u = t

-- a table that was written has no refused address
abbrev pub Fine : Said ℕ → MBR → Type 0
Fine (gives n) t = first-fail (chain_geometry (extended_in t) t) ≡ None
Fine (refuses k) t = Unit {0}
