-- The table block: a table as bytes at fixed offsets, every number little-endian. Assumes nothing.
use Rattle.std.specs.Prelude.{ℕ, zero, suc, ◌+◌, ◌*◌, ◌%◌, ◌≤◌, List, [], ◌∷◌, ◌++◌, Bool, true, ◌&&◌, ◌≡◌, eqb, leb, ltb, length, get_or, take, drop, Option, Some, None}
use Rattle.base.specs.Pick.{pick}
use Rattle.base.specs.Bytes.{bytes_at, number, bytes_of, little}
use Rattle.base.specs.Put.{put}
use Rattle.base.specs.Checks.{Check, ◌!◌}
use Rattle.record_chs.specs.declared.CHS.{CHS}
use Rattle.record_chs.specs.Chs.{chs, no_chs}
use Rattle.record_entry.specs.declared.MBRPartitionEntry.{MBRPartitionEntry}
use Rattle.record_ebr.specs.declared.Kept.{Kept}
use Rattle.record_ebr.specs.Ebr.{mark_length, kept_at}
use Rattle.record_mbr.specs.declared.MBRHeader.{MBRHeader}
use Rattle.record_mbr.specs.Mbr.{code_of}
use Rattle.table.specs.declared.LogicalPartition.{LogicalPartition}
use Rattle.table.specs.declared.MBR.{MBR}
use Rattle.table.specs.Table.{most, count_check}

-- the bytes of an entry and of the header
abbrev pub entry_length : ℕ
entry_length = 18

abbrev pub header_length : ℕ
header_length = 446 + 4 * entry_length + 2

-- where the code and the mark stand in a slot, and its bytes
abbrev pub slot_code : ℕ
slot_code = entry_length + 16

abbrev pub slot_mark : ℕ
slot_mark = slot_code + 446

abbrev pub slot_length : ℕ
slot_length = slot_mark + mark_length

-- where the slots begin, behind the front of 20 and the header; where the tags begin
abbrev pub slots_offset : ℕ
slots_offset = 20 + header_length

abbrev pub tags_offset : ℕ
tags_offset = slots_offset + slot_length * most

-- front, header, slots, tags
abbrev pub block_length : ℕ
block_length = tags_offset + most

-- the n bytes from index at on
unfoldable pub part : List ℕ → ℕ → ℕ → List ℕ
part b at n = take n (drop at b)

-- rule Z11: an address, cylinder 2, head, sector
abbrev pub chs_part : CHS → List ℕ
chs_part c = bytes_of little 2 c.cylinder ++ (c.head ∷ c.sector ∷ [])

abbrev pub chs_in : List ℕ → ℕ → CHS
chs_in s at = chs (number little (bytes_at s at 2)) (get_or s (at + 2) 0) (get_or s (at + 3) 0)

-- rule Z11: an entry, flag, first address, type, last address, start, sectors
abbrev pub entry_part : MBRPartitionEntry → List ℕ
entry_part e =
    (e.boot ∷ []) ++ chs_part e.first_chs ++ (e.sys ∷ []) ++ chs_part e.last_chs ++ bytes_of little 4 e.starting_lba ++ bytes_of little 4 e.sectors

abbrev pub entry_from : List ℕ → ℕ → MBRPartitionEntry
entry_from s at =
    record {
      boot = get_or s at 0;
      first_chs = chs_in s (at + 1);
      sys = get_or s (at + 5) 0;
      last_chs = chs_in s (at + 6);
      starting_lba = number little (bytes_at s (at + 10) 4);
      sectors = number little (bytes_at s (at + 14) 4);
    }

-- rule Z11: a value that may be absent; its bytes are zero then when written, and ignored when read
abbrev pub sectors_part : Option ℕ → List ℕ
sectors_part None = bytes_of little 4 0
sectors_part (Some v) = bytes_of little 4 v

abbrev pub last_part : Option CHS → List ℕ
last_part None = chs_part no_chs
last_part (Some c) = chs_part c

-- rule Z11: a slot's tag tells which of the two is there, 1 the link sectors, 2 the last link address, 3 both, 0 none
abbrev pub sectors_tag : Option ℕ → ℕ
sectors_tag None = 0
sectors_tag (Some v) = 1

abbrev pub last_tag : Option CHS → ℕ
last_tag None = 0
last_tag (Some c) = 2

abbrev pub tag_of : LogicalPartition → ℕ
tag_of l = sectors_tag l.ebr_sectors + last_tag l.ebr_last_chs

abbrev pub sectors_in : ℕ → List ℕ → ℕ → Option ℕ
sectors_in tag s at = pick (eqb (tag % 2) 0) None (Some (number little (bytes_at s at 4)))

abbrev pub last_chs_in : ℕ → List ℕ → ℕ → Option CHS
last_chs_in tag s at = pick (ltb tag 2) None (Some (chs_in s at))

-- rule Z11: a slot, entry, EBR place, link sectors, first and last link address, code, mark
abbrev pub slot_front : LogicalPartition → List ℕ
slot_front l =
    entry_part l.partition ++ bytes_of little 4 l.absolute_ebr_lba.0 ++ sectors_part l.ebr_sectors ++ chs_part l.ebr_first_chs
    ++ last_part l.ebr_last_chs

abbrev pub kept_part : Kept → List ℕ
kept_part k = k.bootstrap_code ++ k.mark

unfoldable pub slot_part : LogicalPartition → List ℕ
slot_part l = slot_front l ++ kept_part l.kept

-- the logical partition in a slot with its tag
abbrev pub slot_of : ℕ → List ℕ → LogicalPartition
slot_of tag s =
    record {
      partition = entry_from s 0;
      absolute_ebr_lba = record { 0 = number little (bytes_at s 18 4) };
      ebr_sectors = sectors_in tag s 22;
      ebr_first_chs = chs_in s 26;
      ebr_last_chs = last_chs_in tag s 30;
      kept = kept_at slot_code slot_mark s;
    }

-- rule Z9: the header, code, disk signature, copy mark, four entries, signature
abbrev pub code_part : MBRHeader → List ℕ
code_part h = h.bootstrap_code ++ h.disk_signature ++ h.copy_protected

abbrev pub entries_part : MBRPartitionEntry → MBRPartitionEntry → MBRPartitionEntry → MBRPartitionEntry → List ℕ
entries_part one two three four = entry_part one ++ entry_part two ++ entry_part three ++ entry_part four

unfoldable pub header_part : MBRHeader → List ℕ
header_part h =
    code_part h ++ entries_part h.partition_1 h.partition_2 h.partition_3 h.partition_4 ++ h.boot_signature

abbrev pub header_in : List ℕ → MBRHeader
header_in s =
    record {
      bootstrap_code = code_of s;
      disk_signature = bytes_at s 440 4;
      copy_protected = bytes_at s 444 2;
      partition_1 = entry_from s 446;
      partition_2 = entry_from s 464;
      partition_3 = entry_from s 482;
      partition_4 = entry_from s 500;
      boot_signature = bytes_at s 518 2;
    }

-- rule Z9: the front of 20, sector size, disk size, alignment, count, cylinders, heads, sectors
abbrev pub front_part : ℕ → ℕ → ℕ → ℕ → ℕ → ℕ → ℕ → List ℕ
front_part size disk align count cylinders heads sectors =
    bytes_of little 4 size ++ bytes_of little 4 disk ++ bytes_of little 4 align ++ bytes_of little 4 count ++ bytes_of little 2 cylinders
    ++ (heads ∷ sectors ∷ [])

-- rule Z9: every slot, the unused ones too, and the tag of each
unfoldable pub slots_part : List LogicalPartition → List ℕ
slots_part [] = []
slots_part (l ∷ ls) = slot_part l ++ slots_part ls

unfoldable pub tags_part : List LogicalPartition → List ℕ
tags_part [] = []
tags_part (l ∷ ls) = tag_of l ∷ tags_part ls

-- rule Z9: where slot i and its tag stand
abbrev pub slot_start : ℕ → ℕ
slot_start i = slots_offset + slot_length * i

abbrev pub tag_start : ℕ → ℕ
tag_start i = tags_offset + i

-- the bytes of slot i, and its tag
abbrev pub slot_at : List ℕ → ℕ → List ℕ
slot_at b i = part b (slot_start i) slot_length

abbrev pub tag_at : List ℕ → ℕ → ℕ
tag_at b i = get_or b (tag_start i) 0

-- a block with a logical partition in slot i
unfoldable pub slot_put : List ℕ → ℕ → LogicalPartition → List ℕ
slot_put b i l = put (put b (slot_start i) (slot_part l)) (tag_start i) (tag_of l ∷ [])

-- a block with logical partitions in its first slots
unfoldable pub slots_put : List ℕ → List LogicalPartition → List ℕ
slots_put b ls = put (put b slots_offset (slots_part ls)) tags_offset (tags_part ls)

-- the first n slots
unfoldable pub slots_in : List ℕ → ℕ → List LogicalPartition
slots_in b zero = []
slots_in b (suc n) = slots_in b n ++ (slot_of (tag_at b n) (slot_at b n) ∷ [])

-- rule Z1: a tag from 0 to 3
abbrev pub possible : ℕ → Bool
possible tag = leb tag 3

-- rule Z1: n tags from that of slot i on are possible
unfoldable pub tagged : List ℕ → ℕ → ℕ → Bool
tagged b i zero = true
tagged b i (suc n) = possible (tag_at b i) && tagged b (suc i) n

-- the block of a table
unfoldable pub block_bytes : MBR → List ℕ
block_bytes t =
    front_part t.sector_size t.disk_size t.align t.count t.cylinders t.heads t.sectors
    ++ header_part t.header ++ slots_part t.logical_partitions ++ tags_part t.logical_partitions

-- the table in a block (rule Z80)
unfoldable pub table_in : List ℕ → MBR
table_in b =
    record {
      sector_size = number little (bytes_at b 0 4);
      header = header_in (part b 20 header_length);
      logical_partitions = slots_in b most;
      count = number little (bytes_at b 12 4);
      align = number little (bytes_at b 8 4);
      cylinders = number little (bytes_at b 16 2);
      heads = get_or b 18 0;
      sectors = get_or b 19 0;
      disk_size = number little (bytes_at b 4 4);
    }

-- rule Z1: a table for a block; a count over the capacity 6, before everything else; then lent bytes of another length 101
abbrev pub put_checks : MBR → ℕ → List Check
put_checks t room = count_check t ∷ (101 ! eqb room block_length) ∷ []

-- rule Z1: a block; another length 101, since it has no count to look at; a count over the capacity 6; an impossible tag 102
abbrev pub block_checks : List ℕ → List Check
block_checks b =
    (101 ! eqb (length b) block_length) ∷ (6 ! leb (number little (bytes_at b 12 4)) most) ∷ (102 ! tagged b 0 most) ∷ []

-- a block that has passed them
pub record Passed (b : List ℕ) : Type 0 where
  pub long : length b ≡ block_length
  pub few : (table_in b).count ≤ most
  pub tags : tagged b 0 most ≡ true
