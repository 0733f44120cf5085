-- A partition entry: flag, first CHS (3), type, last CHS (3), start, sectors, the last two u32 little-endian. Assumes nothing.
use Rattle.std.specs.Prelude.{ℕ, ◌+◌, ◌<◌, ◌^◌, List, [], ◌∷◌, ◌++◌, Bool, not, get_or, eqb}
use Rattle.base.specs.Pick.{among}
use Rattle.base.specs.Bytes.{bytes_at, number, bytes_of, little}
use Rattle.record_chs.specs.Chs.{chs_of, chs_bytes, no_chs, ChsOk}
use Rattle.record_entry.specs.declared.MBRPartitionEntry.{MBRPartitionEntry}

-- the entry whose 16 bytes stand in s from index at on (rule E1)
abbrev pub entry_at : List ℕ → ℕ → MBRPartitionEntry
entry_at s at =
    record {
      boot = get_or s at 0;
      first_chs = chs_of (bytes_at s (at + 1) 3);
      sys = get_or s (at + 4) 0;
      last_chs = chs_of (bytes_at s (at + 5) 3);
      starting_lba = number little (bytes_at s (at + 8) 4);
      sectors = number little (bytes_at s (at + 12) 4);
    }

-- its 16 bytes (rule E1)
abbrev pub entry_bytes : MBRPartitionEntry → List ℕ
entry_bytes e =
    (e.boot ∷ []) ++ chs_bytes e.first_chs ++ (e.sys ∷ []) ++ chs_bytes e.last_chs ++ bytes_of little 4 e.starting_lba ++ bytes_of little 4 e.sectors

-- 16 zeros (rule E1)
abbrev pub no_entry : MBRPartitionEntry
no_entry = record { boot = 0; first_chs = no_chs; sys = 0; last_chs = no_chs; starting_lba = 0; sectors = 0 }

-- the flag must be 00 or 80 (rule E4)
abbrev pub flag_ok : MBRPartitionEntry → Bool
flag_ok e = among e.boot (0 ∷ 128 ∷ [])

-- used: type not 0 (rule E5)
abbrev pub used : ℕ → Bool
used sys = not (eqb sys 0)

-- unused: type 0 (rule E5)
abbrev pub unused : ℕ → Bool
unused sys = eqb sys 0

-- extended: type 05, 0F, 85, C5 or D5 (rule E7)
abbrev pub extended_types : List ℕ
extended_types = 0x05 ∷ 0x0F ∷ 0x85 ∷ 0xC5 ∷ 0xD5 ∷ []

-- rule E7
abbrev pub extended : ℕ → Bool
extended sys = among sys extended_types

-- bootable: flag 80 (rule E4)
abbrev pub active : MBRPartitionEntry → Bool
active e = eqb e.boot 128

-- the sector behind its last
abbrev pub end_of : MBRPartitionEntry → ℕ
end_of e = e.starting_lba + e.sectors

-- an entry that 16 bytes can hold
pub record EntryOk (e : MBRPartitionEntry) : Type 0 where
  pub boot : e.boot < 256
  pub first : ChsOk e.first_chs
  pub sys : e.sys < 256
  pub last : ChsOk e.last_chs
  pub start : e.starting_lba < 2 ^ 32
  pub sectors : e.sectors < 2 ^ 32
