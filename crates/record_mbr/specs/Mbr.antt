-- An MBR: code 440, disk signature 4, copy mark 2, four entries of 16 at 446, then 55 AA. Assumes nothing.
use Rattle.std.specs.Prelude.{ℕ, List, [], ◌∷◌, ◌++◌, Bool, true, false, ◌≡◌, length, take, replicate, eqb}
use Rattle.std.specs.Prelude.{Option, None, Some}
use Rattle.base.specs.Pick.{pick}
use Rattle.base.specs.Bytes.{Bytes, signature, bytes_at, stands_at}
use Rattle.base.specs.Checks.{Check, ◌!◌, record_check, record_room}
use Rattle.record_entry.specs.declared.MBRPartitionEntry.{MBRPartitionEntry}
use Rattle.record_entry.specs.Entry.{entry_at, entry_bytes, no_entry, flag_ok, extended, EntryOk}
use Rattle.record_mbr.specs.declared.MBRHeader.{MBRHeader}
use Rattle.record_mbr.specs.declared.Protection.{Protection}
use Rattle.record_mbr.specs.declared.Protection.TheVariants.{No, Yes, Neither}

-- the code (rule M1)
unfoldable pub code_of : List ℕ → List ℕ
code_of r = take 440 r

-- the header in a record (rule M1)
abbrev pub mbr_of : List ℕ → MBRHeader
mbr_of r =
    record {
      bootstrap_code = code_of r;
      disk_signature = bytes_at r 440 4;
      copy_protected = bytes_at r 444 2;
      partition_1 = entry_at r 446;
      partition_2 = entry_at r 462;
      partition_3 = entry_at r 478;
      partition_4 = entry_at r 494;
      boot_signature = bytes_at r 510 2;
    }

-- the four entries
abbrev pub primaries : MBRHeader → List MBRPartitionEntry
primaries h = h.partition_1 ∷ h.partition_2 ∷ h.partition_3 ∷ h.partition_4 ∷ []

-- signature 3, flags 4 (rule M7)
abbrev pub header_checks : MBRHeader → List Check
header_checks h =
    (3 ! stands_at h.boot_signature 0 signature) ∷ (4 ! flag_ok h.partition_1) ∷ (4 ! flag_ok h.partition_2)
    ∷ (4 ! flag_ok h.partition_3) ∷ (4 ! flag_ok h.partition_4) ∷ []

-- a lent record is 512 bytes (rule M6)
abbrev pub mbr_read_checks : List ℕ → List Check
mbr_read_checks r = record_check r ∷ header_checks (mbr_of r)

-- a new header (rule N3)
unfoldable pub new_header : List ℕ → MBRHeader
new_header disk =
    record {
      bootstrap_code = replicate 440 0;
      disk_signature = disk;
      copy_protected = 0 ∷ 0 ∷ [];
      partition_1 = no_entry;
      partition_2 = no_entry;
      partition_3 = no_entry;
      partition_4 = no_entry;
      boot_signature = signature;
    }

-- what stands in the place of a header that is refused (rule G2)
abbrev pub no_header : MBRHeader
no_header = new_header (replicate 4 0)

-- its 512 bytes (rule M10)
unfoldable pub mbr_bytes : MBRHeader → List ℕ
mbr_bytes h =
    h.bootstrap_code ++ h.disk_signature ++ h.copy_protected ++ entry_bytes h.partition_1 ++ entry_bytes h.partition_2
    ++ entry_bytes h.partition_3 ++ entry_bytes h.partition_4 ++ signature

-- signature 3, flags 4, lent bytes too short 19 (rule M13)
abbrev pub mbr_write_checks : MBRHeader → ℕ → List Check
mbr_write_checks h room = header_checks h ++ record_room room ∷ []

-- the first extended entry counts (rule M17)
unfoldable pub extended_of : List MBRPartitionEntry → Option MBRPartitionEntry
extended_of [] = None
extended_of (e ∷ es) = pick (extended e.sys) (Some e) (extended_of es)

-- none of these is extended
abbrev pub PlainAll : List MBRPartitionEntry → Type 0
PlainAll [] = Unit {0}
PlainAll (e ∷ es) = (extended e.sys ≡ false) × PlainAll es

-- `e` is the first extended one of the entries
pub record FirstExtended (es : List MBRPartitionEntry) (e : MBRPartitionEntry) : Type 0 where
  pub before : List MBRPartitionEntry
  pub behind : List MBRPartitionEntry
  pub parts : es ≡ before ++ e ∷ behind
  pub plain : PlainAll before
  pub is-extended : extended e.sys ≡ true

-- entries are numbered from 1 to 4 (rule L1)
abbrev pub primary_of : MBRHeader → ℕ → Option MBRPartitionEntry
primary_of h i =
    pick (eqb i 1) (Some h.partition_1)
    (pick (eqb i 2) (Some h.partition_2)
    (pick (eqb i 3) (Some h.partition_3) (pick (eqb i 4) (Some h.partition_4) None)))

-- the copy mark: 00 00 no, 5A 5A yes, else neither (rule M1)
abbrev pub marked : List ℕ → Option Bool
marked m = pick (stands_at m 0 (0 ∷ 0 ∷ [])) (Some false) (pick (stands_at m 0 (0x5A ∷ 0x5A ∷ [])) (Some true) None)

-- what the answer says
abbrev pub protected : Protection → Option Bool
protected No = Some false
protected Yes = Some true
protected Neither = None

-- a header that a record can hold
pub record MbrOk (h : MBRHeader) : Type 0 where
  pub code : length h.bootstrap_code ≡ 440
  pub code-bytes : Bytes h.bootstrap_code
  pub disk : length h.disk_signature ≡ 4
  pub disk-bytes : Bytes h.disk_signature
  pub mark : length h.copy_protected ≡ 2
  pub mark-bytes : Bytes h.copy_protected
  pub one : EntryOk h.partition_1
  pub two : EntryOk h.partition_2
  pub three : EntryOk h.partition_3
  pub four : EntryOk h.partition_4
  pub signed : h.boot_signature ≡ signature
