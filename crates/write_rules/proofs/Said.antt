-- What writing says and leaves, by its count and by the answer. Assumes nothing.
use Rattle.base.specs.declared.Refusal.{Refusal}
use mathlib.Core.Path.{◌≡◌, refl, sym, ap, ◌∙◌}
use mathlib.Core.List.{List, ◌++◌}
use Rattle.std.specs.Prelude.{Option, None, Some, Result, Ok}
use Prim.Native.Nat.{ℕ, ◌≤◌, ◌<◌}
use lib.ListN.{length}
use borrow.Author.Tests.{lt-leb, le-leb}
use Rattle.base.specs.Said.{answered, Said, gives, refuses}
use Rattle.base.specs.Checks.{Check, AllHold, answer, first-fail}
use Rattle.base.proofs.Checks.{all_hold, answered-injective, checked-none}
use Rattle.record_entry.specs.declared.MBRPartitionEntry.{MBRPartitionEntry}
use Rattle.extract.specs.Extract.{disk_sectors, extract_checks}
use Rattle.table.specs.declared.MBR.{MBR}
use Rattle.table.specs.Table.{logicals, extended_in, most}
use Rattle.table_push.specs.Push.{geometry_of}
use Rattle.write_rules.specs.AsWritten.{logicals_checks}
use Rattle.write_rules.proofs.as_written.Laws.{settle-none}
use Rattle.write_rules.specs.Write.{table_stores, chain_checks, header_refusals, write_checks, left_by, chain_geometry}
use Rattle.write_rules.specs.Records.{extract_over}
use Rattle.write_rules.specs.Answers.{write_says, write_table, write_leaves, Lays, table_by, Fine}
use Rattle.write_rules.proofs.Told.{table-checked}
use Rattle.write_rules.proofs.Over.{chain_held}

-- an answer by checks that all hold is the value
pub answered-ok : {A : Type 0} (cs : List Check) (a : A) (r : Result A Refusal) → first-fail cs ≡ None → answered r ≡ answer cs a → r ≡ Ok a
answered-ok cs a r h e = answered-injective r (Ok a) (e ∙ checked-none cs refuses (gives a) h)

pub ok-injective : {A : Type 0} {a b : A} → ◌≡◌ {A = Result A Refusal} (Ok a) (Ok b) → a ≡ b
ok-injective e = cc

-- a count over the capacity, and one that is not
pub into-six : (a : Result ℕ Refusal) (u : MBR) (out after x : List ℕ) (t : MBR) → most < t.count → answered a ≡ refuses 6 → u ≡ t → after ≡ out
    → (answered a ≡ write_says t x (length out)) × ((u ≡ write_table t x (length out)) × (after ≡ write_leaves t x out))
unfolding write_says write_table write_leaves write_checks
into-six a u out after x t h s q l =
    let e = lt-leb t.count most h in
    (s ∙ rw e, (q ∙ rw e, l ∙ rw e))

pub into-rest : (r : Result ℕ Refusal) (out after x : List ℕ) (t : MBR) → t.count ≤ most → Lays r t x out after (extract_checks x ++ header_refusals t x (length out))
    → (answered r ≡ write_says t x (length out)) × (after ≡ write_leaves t x out)
unfolding write_says write_leaves write_checks
into-rest r out after x t h p =
    let e = le-leb t.count most h in
    (p.says ∙ rw e, p.leaves ∙ rw e)

-- the table that a block holds: what was said of it, and the table after it
pub table-fine : (t : MBR) (x : List ℕ) (room : ℕ) (s : Said ℕ) → s ≡ write_says t x room → Fine s t
table-fine t x room (refuses k) e = tt
table-fine t x room (gives n) e = go (extended_in t) (chain_held t x room n (sym e))
  where
    go : (o : Option MBRPartitionEntry) → AllHold (chain_checks (geometry_of t) o (disk_sectors x) (logicals t)) → first-fail (chain_geometry o t) ≡ None
    go None h = refl
    go (Some e) h = settle-none t e.starting_lba (disk_sectors x) (all_hold (logicals_checks (geometry_of t) e.starting_lba (disk_sectors x) (logicals t)) h)

pub table-said : (t u : MBR) (x : List ℕ) (room : ℕ) (s : Said ℕ) → s ≡ write_says t x room → u ≡ table_by s t (left_by (extended_in t) t) → u ≡ write_table t x room
unfolding write_says write_table
table-said t u x room s e q =
    q ∙ ap (λ (z : Said ℕ). table_by z t (left_by (extended_in t) t)) e ∙ table-checked (write_checks t x room) (length (extract_over x (table_stores t))) t (left_by (extended_in t) t)
