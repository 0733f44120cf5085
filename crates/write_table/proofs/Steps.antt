-- The steps of writing, as the code takes them. Assumes nothing.
use Rattle.base.specs.declared.Refusal.{Refusal}
use mathlib.Core.Path.{◌≡◌, sym, ap, subst, ◌∙◌}
use mathlib.Core.List.{List, [], ◌∷◌, ◌++◌}
use Rattle.std.specs.Prelude.{Option, None, Some, Result}
use Prim.Native.Nat.{ℕ, ◌<◌}
use lib.ListN.{length}
use lib.Dec.{ltb}
use borrow.Author.Tests.{ltb-true}
use Rattle.base.specs.Put.{put}
use Rattle.base.specs.Said.{answered, gives, refuses}
use Rattle.base.specs.Checks.{Check, ◌!◌, first-fail}
use Rattle.base.proofs.Checks.{none-fails, hold-right}
use Rattle.record_entry.specs.declared.MBRPartitionEntry.{MBRPartitionEntry}
use Rattle.record_mbr.specs.declared.MBRHeader.{MBRHeader}
use Rattle.record_mbr.specs.Mbr.{mbr_bytes, header_checks}
use Rattle.extract.specs.Extract.{disk_sectors, Good}
use Rattle.extract.specs.Answers.{header_of}
use Rattle.extract.specs.Disk.{Store}
use Rattle.extract.specs.declared.Extract.{Extract}
use Rattle.extract_lay.specs.Layover.{new_extract}
use Rattle.extract_lay.specs.Layover as layover
use Rattle.extract_lay.specs.Answers.{lay_says, lay_leaves}
use Rattle.extract_lay.proofs.Rules.{lay-on}
use Rattle.table.specs.declared.MBR.{MBR}
use Rattle.table.specs.Table.{logicals, extended_in}
use Rattle.table_push.specs.Push.{geometry_of}
use Rattle.write_rules.specs.AsWritten.{logicals_checks, as_written_in}
use Rattle.write_rules.specs.Write.{header_store, chain_stores, table_stores, written_room, chain_checks, disk_checks, chain_on}
use Rattle.write_rules.specs.Records.{ebr_stores, laid_all, extract_over}
use Rattle.write_rules.specs.Answers.{Put, Lays}
use Rattle.write_rules.specs.Sources.{stores_of}
use Rattle.write_rules.proofs.Told.{put-fails, put-skip}

-- a table without an extended entry, and one with it
module _ (r : Result ℕ Refusal) (out after x : List ℕ) (t : MBR) where
  abbrev By : Option MBRPartitionEntry → Type 0
  By o =
      Put r out after
      (chain_checks (geometry_of t) o (disk_sectors x) (logicals t) ++ written_room x (header_store t.header ∷ chain_stores (geometry_of t) o (logicals t)) (length out))
      (extract_over x (header_store t.header ∷ chain_stores (geometry_of t) o (logicals t)))

  by-entry : (o : Option MBRPartitionEntry) → extended_in t ≡ o → By o → Lays r t x out after (chain_on t x (length out))
  unfolding table_stores
  by-entry o e b = subst By (sym e) b

  pub plain-put : (h : MBRHeader) → h ≡ t.header → extended_in t ≡ None → Put r out after (written_room x (header_store h ∷ []) (length out)) (extract_over x (header_store h ∷ []))
      → Lays r t x out after (chain_on t x (length out))
  plain-put h i n p = by-entry None n (subst (λ (h : MBRHeader). Put r out after (written_room x (header_store h ∷ []) (length out)) (extract_over x (header_store h ∷ []))) i p)

  module _ (e : MBRPartitionEntry) (n : extended_in t ≡ Some e) where
    abbrev cs : List Check
    cs = logicals_checks (geometry_of t) e.starting_lba (disk_sectors x) (logicals t)

    abbrev new : List Store
    new = header_store t.header ∷ ebr_stores e (as_written_in t e.starting_lba)

    pub chain-refused : (k : ℕ) → first-fail cs ≡ Some k → answered r ≡ refuses k → after ≡ out → Lays r t x out after (chain_on t x (length out))
    chain-refused k f s l = by-entry (Some e) n (put-fails r out after (extract_over x new) cs (written_room x new (length out)) k f s l)

    pub chain-put : (h : MBRHeader) (first : List ℕ) → first ≡ mbr_bytes h → h ≡ t.header → first-fail cs ≡ None
        → Put r out after (written_room x (stores_of first e (as_written_in t e.starting_lba)) (length out)) (extract_over x (stores_of first e (as_written_in t e.starting_lba)))
        → Lays r t x out after (chain_on t x (length out))
    chain-put h first f i c p =
        let g = subst (λ (b : List ℕ). Put r out after (written_room x (stores_of b e (as_written_in t e.starting_lba)) (length out)) (extract_over x (stores_of b e (as_written_in t e.starting_lba)))) (f ∙ ap mbr_bytes i) p in
        by-entry (Some e) n (put-skip r out after (extract_over x new) cs (written_room x new (length out)) c g)

-- what a header and D lead to
pub rules-of : (h g : MBRHeader) (x : List ℕ) (k : Extract) → h ≡ g → k ≡ header_of x → first-fail (header_checks h ++ (2 ! ltb 0 k.disk_size) ∷ []) ≡ first-fail (header_checks g ++ disk_checks x)
rules-of h g x k i e =
    ap (λ (h : MBRHeader). first-fail (header_checks h ++ (2 ! ltb 0 k.disk_size) ∷ [])) i
    ∙ ap (λ (j : Extract). first-fail (header_checks g ++ (2 ! ltb 0 j.disk_size) ∷ [])) e

pub disk-there : (h : MBRHeader) (x : List ℕ) → first-fail (header_checks h ++ disk_checks x) ≡ None → 0 < disk_sectors x
disk-there h x e = ltb-true 0 (disk_sectors x) (hold-right (header_checks h) (disk_checks x) (none-fails (header_checks h ++ disk_checks x) e)).0

-- a header alone is a record laid over
pub header-laid : (x : List ℕ) (h : MBRHeader) (first out after : List ℕ) (r : Result ℕ Refusal) → Good x → first ≡ mbr_bytes h → length first ≡ 512 → 0 < disk_sectors x
    → answered r ≡ lay_says x 0 first (length out) → after ≡ lay_leaves x 0 first out → Put r out after (written_room x (header_store h ∷ []) (length out)) (extract_over x (header_store h ∷ []))
unfolding lay_says lay_leaves written_room layover.room_checks laid_all extract_over new_extract
header-laid x h first out after r g f l d s o =
    subst (λ (b : List ℕ). Put r out after (written_room x (record { lba = 0; bytes = b } ∷ []) (length out)) (extract_over x (record { lba = 0; bytes = b } ∷ []))) f
    (record {
      says = s ∙ lay-on x 0 first (length out) refuses (gives (length (new_extract x 0 first))) g l d;
      leaves = o ∙ lay-on x 0 first (length out) (λ (j : ℕ). out) (put out 0 (new_extract x 0 first)) g l d;
    })
