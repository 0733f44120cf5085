-- An EBR: code 446, partition entry, link entry, mark 32, 55 AA. Assumes nothing.
use Rattle.std.specs.Prelude.{ℕ, List, [], ◌∷◌, ◌++◌, ◌≡◌, length, take, drop, replicate}
use Rattle.base.specs.Bytes.{Bytes, signature, stands_at}
use Rattle.base.specs.Checks.{Check, ◌!◌, record_check, record_room}
use Rattle.record_entry.specs.Entry.{entry_at, entry_bytes, no_entry, flag_ok, EntryOk}
use Rattle.record_ebr.specs.declared.Kept.{Kept}
use Rattle.record_ebr.specs.declared.EBRHeader.{EBRHeader}
use Rattle.record_ebr.specs.declared.Entries.{Entries}

-- the bytes of a mark, and where it stands in a record: bytes 478 to 509 (rule B8)
abbrev pub mark_length : ℕ
mark_length = 32

abbrev pub mark_offset : ℕ
mark_offset = 478

-- what an EBR carries beside its entries: the code, which stands at c, and the mark, at m
unfoldable pub kept_at : ℕ → ℕ → List ℕ → Kept
kept_at c m r = record { bootstrap_code = take 446 (drop c r); mark = take mark_length (drop m r) }

-- in a record (rules B1 and B8)
abbrev pub kept_of : List ℕ → Kept
kept_of r = kept_at 0 mark_offset r

-- the two entries (rule B1)
abbrev pub entries_of : List ℕ → Entries
entries_of r = record { partition_1 = entry_at r 446; partition_2 = entry_at r 462 }

-- the EBR in a record (rule B1)
abbrev pub ebr_of : List ℕ → EBRHeader
ebr_of r = record { kept = kept_of r; partition_1 = entry_at r 446; partition_2 = entry_at r 462 }

-- signature 3, flags of both entries 4 (rules B1, B6 and B7)
abbrev pub ebr_checks : List ℕ → List Check
ebr_checks r = (3 ! stands_at r 510 signature) ∷ (4 ! flag_ok (entry_at r 446)) ∷ (4 ! flag_ok (entry_at r 462)) ∷ []

-- a lent record is 512 bytes (rule M6)
abbrev pub ebr_read_checks : List ℕ → List Check
ebr_read_checks r = record_check r ∷ ebr_checks r

-- no mark
abbrev pub no_mark : List ℕ
no_mark = replicate mark_length 0

-- no code and no mark
unfoldable pub no_kept : Kept
no_kept = record { bootstrap_code = replicate 446 0; mark = no_mark }

-- the empty EBR (rule B1)
abbrev pub no_ebr : EBRHeader
no_ebr = record { kept = no_kept; partition_1 = no_entry; partition_2 = no_entry }

-- the EBR with another mark
abbrev pub marked : List ℕ → EBRHeader → EBRHeader
marked m h =
    record {
      kept = record { bootstrap_code = h.kept.bootstrap_code; mark = m };
      partition_1 = h.partition_1;
      partition_2 = h.partition_2;
    }

-- its 512 bytes with a mark, which need not be its own: plain writing writes none (rule B5)
unfoldable pub ebr_bytes : List ℕ → EBRHeader → List ℕ
ebr_bytes m h =
    h.kept.bootstrap_code ++ entry_bytes h.partition_1 ++ entry_bytes h.partition_2 ++ m ++ signature

-- flags of both entries 4, lent bytes too short 19 (rule M13)
abbrev pub ebr_write_checks : EBRHeader → ℕ → List Check
ebr_write_checks h room = (4 ! flag_ok h.partition_1) ∷ (4 ! flag_ok h.partition_2) ∷ record_room room ∷ []

-- a mark that 32 bytes can hold
pub record MarkOk (m : List ℕ) : Type 0 where
  pub long : length m ≡ mark_length
  pub bytes : Bytes m

-- code that 446 bytes can hold, and a mark
pub record KeptOk (k : Kept) : Type 0 where
  pub long : length k.bootstrap_code ≡ 446
  pub bytes : Bytes k.bootstrap_code
  pub mark : MarkOk k.mark

-- an EBR that a record can hold
pub record EbrOk (h : EBRHeader) : Type 0 where
  pub kept : KeptOk h.kept
  pub first : EntryOk h.partition_1
  pub second : EntryOk h.partition_2
