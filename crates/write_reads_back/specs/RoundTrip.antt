-- The round trip: a sound table that is written over an extract reads back as it was, but for its marks, which plain writing writes as zeros. Assumes nothing.
use Rattle.std.specs.Prelude.{ℕ, ◌^◌, ◌≤◌, ◌<◌, ◌≡◌, true, false, List, [], ◌∷◌, map, length, take}
use Rattle.std.specs.Prelude.{Option, None, Some}
use Rattle.base.specs.Bytes.{Bytes}
use Rattle.base.specs.Said.{Said, gives, and_then}
use Rattle.base.specs.Checks.{AllHold, answer}
use Rattle.base.specs.All.{All}
use Rattle.write_rules.specs.Ranges.{TableIn}
use Rattle.record_entry.specs.declared.MBRPartitionEntry.{MBRPartitionEntry}
use Rattle.record_ebr.specs.Ebr.{no_mark}
use Rattle.record_mbr.specs.Mbr.{primaries, extended_of}
use Rattle.extract.specs.Extract.{sector_size_of, disk_sectors, extract_checks}
use Rattle.table.specs.declared.LogicalPartition.{LogicalPartition}
use Rattle.table.specs.declared.MBR.{MBR}
use Rattle.table.specs.Table.{most, logicals, extended_in}
use Rattle.read_table.specs.Read.{Table, read_says, table_of}
use Rattle.table_remove.specs.Remove.{removed_table}
use Rattle.table_address.specs.Address.{complete}
use Rattle.table_push.specs.Push.{geometry_of}
use Rattle.sound.specs.Is.{later}
use Rattle.write_rules.specs.AsWritten.{link_there}
use Rattle.sound.specs.Sound.{Contents, contents_of, Sound}
use Rattle.careful.specs.Careful.{contents, relist, in_first_place}
use Rattle.write_rules.specs.Write.{table_stores, extract_over, written_room}
use Rattle.write_rules.specs.Answers.{write_says, write_leaves}

-- an entry's start and sectors are numbers of 32 bits
pub record PlaceFits (e : MBRPartitionEntry) : Type 0 where
  pub start : e.starting_lba < 2 ^ 32
  pub sectors : e.sectors < 2 ^ 32

-- numbers and arrays that fit their types, as those of every table do that a program holds
pub record Fits (t : MBR) : Type 0 where
  pub bytes : TableIn t
  pub places : All PlaceFits (primaries t.header)
  pub signature : length t.header.boot_signature ≡ 2

-- a logical partition, or no extended entry: an empty chain is not written, so what stood at X would be read
abbrev pub Filled : Option MBRPartitionEntry → List LogicalPartition → Type 0
Filled None ls = Unit {0}
Filled (Some e) [] = ⊥
Filled (Some e) (l ∷ ls) = Unit {0}

-- a table that comes back: sound, no geometry set (a complete one would compute the addresses anew), and so filled
pub record Returning (t : MBR) : Type 0 where
  pub fits : Fits t
  pub sound : Sound (contents_of t)
  pub no-geometry : complete (geometry_of t) ≡ false
  pub filled : Filled (extended_in t) (logicals t)

-- link sectors and last link CHS are there
abbrev pub HasLink : LogicalPartition → Type 0
HasLink l = link_there l.ebr_sectors l.ebr_last_chs ≡ true

-- what lent bytes read as, alignment left out
unfoldable pub contents_in : List ℕ → Said Contents
contents_in x = and_then (read_says x) (λ u. gives (contents u))

-- a logical partition, and a table, with its marks cleared
unfoldable pub unmarked : LogicalPartition → LogicalPartition
unmarked l =
    record {
      partition = l.partition;
      absolute_ebr_lba = l.absolute_ebr_lba;
      ebr_sectors = l.ebr_sectors;
      ebr_first_chs = l.ebr_first_chs;
      ebr_last_chs = l.ebr_last_chs;
      kept = record { bootstrap_code = l.kept.bootstrap_code; mark = no_mark };
    }

unfoldable pub cleared : Contents → Contents
cleared t = relist t (map unmarked t.logicals)

-- rule W45: written over x, of the table's sector size and D, into out: if n bytes are the answer, they read as the same header and the same list under the first-place rule, the marks cleared
pub record RoundTrip (t : MBR) (x out : List ℕ) : Type 0 where
  pub returns : Returning t → Bytes x → sector_size_of x ≡ t.sector_size → disk_sectors x ≡ t.disk_size → (n : ℕ) → write_says t x (length out) ≡ gives n
      → contents_in (take n (write_leaves t x out)) ≡ gives (cleared (in_first_place (contents_of t)))
  -- and with no more logical partitions than a table holds, the later ones with their link fields, over a good extract of a disk with a sector, nothing but room is refused: 22, 19
  pub accepted : Returning t → t.count ≤ most → All HasLink (later (logicals t)) → AllHold (extract_checks x) → 0 < disk_sectors x → disk_sectors x ≡ t.disk_size
      → write_says t x (length out) ≡ answer (written_room x (table_stores t) (length out)) (length (extract_over x (table_stores t)))

-- rule W46, the exception: the only logical partition removed from the table that x reads as, and the rest written over x. Its chain is empty, no EBR is written, the old one reads back
pub record OldStays (x out : List ℕ) : Type 0 where
  pub stays : (u : Table) → read_says x ≡ gives u → length u.logicals ≡ 1 → Bytes x → (n : ℕ) → write_says (removed_table (table_of u) 5) x (length out) ≡ gives n
      → read_says (take n (write_leaves (removed_table (table_of u) 5) x out)) ≡ gives u

-- what x reads as, if it is sound and so filled: written over any extract of the same sector size and D it reads back, the marks cleared, with no word on the first place
pub record ReadBack (x y out : List ℕ) : Type 0 where
  pub back : (u : Table) → read_says x ≡ gives u → Bytes x → Sound (contents u) → Filled (extended_of (primaries u.header)) u.logicals → Bytes y → sector_size_of y ≡ u.width
      → disk_sectors y ≡ u.size → (n : ℕ) → write_says (table_of u) y (length out) ≡ gives n → contents_in (take n (write_leaves (table_of u) y out)) ≡ gives (cleared (contents u))
