-- The first of a list of entries that holds a sector. Assumes nothing.
use Rattle.std.specs.Prelude.{ℕ, suc, ◌+◌, ◌^◌, List, [], ◌∷◌, ◌++◌, Bool, true, false, ◌≡◌, length, ltb, leb}
use Rattle.std.specs.Prelude.{Option, None, Some}
use Rattle.base.specs.Pick.{pick}
use Rattle.base.specs.Said.{Said, gives, and_then}
use Rattle.base.specs.Checks.{◌!◌, answer}
use Rattle.record_entry.specs.declared.MBRPartitionEntry.{MBRPartitionEntry}
use Rattle.record_entry.specs.Entry.{used, end_of}
use Rattle.table.specs.declared.MBR.{MBR}
use Rattle.table.specs.Table.{logicals, parts}
use Rattle.table_lookup.specs.declared.hits.Numbered.{Numbered}

-- does an entry hold a sector; its end is formed only if the entry is used and starts at or before the sector, beyond u32 7 (rules L7 and L10)
unfoldable pub holds_says : ℕ → MBRPartitionEntry → Said Bool
holds_says s e =
    pick (used e.sys)
    (pick (leb e.starting_lba s) (answer ((7 ! ltb (end_of e) (2 ^ 32)) ∷ []) (ltb s (end_of e))) (gives false)) (gives false)

abbrev pub numbered : ℕ → MBRPartitionEntry → Numbered
numbered n e = record { number = n; entry = e }

-- the first of the entries, numbered from n on, that holds the sector (rule L12)
unfoldable pub first_at : ℕ → ℕ → List MBRPartitionEntry → Said (Option Numbered)
first_at s n [] = gives None
first_at s n (e ∷ es) = and_then (holds_says s e) (λ b. pick b (gives (Some (numbered n e))) (first_at s (suc n) es))

-- the logical partitions are numbered from 5 on (rules L12 and Z48)
unfoldable pub among_logicals : MBR → ℕ → Said (Option Numbered)
among_logicals t s = first_at s 5 (parts (logicals t))

-- none of the entries holds the sector, and none of their ends is beyond u32
abbrev pub Outside : ℕ → List MBRPartitionEntry → Type 0
Outside s [] = Unit {0}
Outside s (e ∷ es) = (holds_says s e ≡ gives false) × Outside s es

-- h is the first of the entries, numbered from n on, that holds the sector
pub record First (s n : ℕ) (es : List MBRPartitionEntry) (h : Numbered) : Type 0 where
  pub before : List MBRPartitionEntry
  pub behind : List MBRPartitionEntry
  pub parts : es ≡ before ++ h.entry ∷ behind
  pub number : h.number ≡ n + length before
  pub outside : Outside s before
  pub holds : holds_says s h.entry ≡ gives true
