-- What the round trip's conditions say of the header, the logical partitions and the alignment. Assumes nothing.
use mathlib.Core.Path.{◌≡◌, refl}
use mathlib.Core.Bool.{Bool, true, false}
use Rattle.std.specs.Prelude.{Some, Option, None}
use mathlib.Core.List.{List, [], ◌∷◌, map}
use Prim.Native.Nat.{ℕ, ◌≤◌, ◌<◌}
use native.Mathlib.Omega.{arith}
use lib.ListN.{length, get_or}
use Rattle.base.specs.Pick.{pick}
use Rattle.base.specs.Checks.{AllHold}
use Rattle.base.proofs.Checks.{hold-left, hold-right, none-fails}
use Rattle.base.specs.Bytes.{signature}
use Rattle.base.specs.All.{All}
use Rattle.write_rules.specs.Ranges.{InByte, HeaderIn, ChsIn, LogicalIn}
use Rattle.record_chs.specs.declared.CHS.{CHS}
use Rattle.record_chs.specs.Chs.{ChsOk}
use Rattle.record_entry.specs.declared.MBRPartitionEntry.{MBRPartitionEntry}
use Rattle.record_entry.specs.Entry.{used, EntryOk}
use Rattle.record_mbr.specs.declared.MBRHeader.{MBRHeader}
use Rattle.record_mbr.specs.Mbr.{MbrOk, header_checks}
use Rattle.record_mbr.proofs.Laws.{mbr-flags}
use Rattle.table.specs.declared.LogicalPartition.{LogicalPartition}
use Rattle.table.specs.declared.MBR.{MBR}
use Rattle.read_align.specs.Align.{used_starts, largest_start, alignment}
use Rattle.table_address.specs.declared.Geometry.{Geometry}
use Rattle.table_address.specs.Address.{complete}
use Rattle.sound.specs.Sound.{contents_of, Within, IfThere, EntryChs, LogicalChs, Used, Sound}
use Rattle.write_rules.specs.AsWritten.{by_geometry, link_there, next_linked, row_checks, all_rows}
use Rattle.sound.proofs.Test.{is-flag}
use Rattle.careful.proofs.Aligned.{Aligned, aligned-of}
use Rattle.careful.proofs.Push.{Writable, Linkable}
use Rattle.write_reads_back.specs.RoundTrip.{PlaceFits, Fits}

chs-ok : (c : CHS) → Within c → c.head < 256 → ChsOk c
chs-ok c w h = record { cylinder = omega arith; head = h; sector = omega arith }

entry-ok : (e : MBRPartitionEntry) → EntryChs e → InByte e → PlaceFits e → EntryOk e
entry-ok e c f p = record {
  boot = f.boot;
  first = chs-ok e.first_chs c.0 f.first;
  sys = f.sys;
  last = chs-ok e.last_chs c.1 f.last;
  start = p.start;
  sectors = p.sectors;
}

-- two bytes that stand one by one
two_bytes : (l : List ℕ) → length l ≡ 2 → get_or l 0 0 ≡ 0x55 → get_or l 1 0 ≡ 0xAA → l ≡ signature
two_bytes [] n a b = absurd (omega arith)
two_bytes (x ∷ []) n a b = absurd (omega arith)
two_bytes (x ∷ y ∷ []) n a b = rw (a, b)
two_bytes (x ∷ y ∷ z ∷ l) n a b = absurd (omega arith)

-- the header of a sound table is one that a record can hold, and no check of reading fails on it
module _ (t : MBR) (f : Fits t) (s : Sound (contents_of t)) where
  pub header_ok : MbrOk t.header
  header_ok =
      let h = t.header in
      let c = s.addresses.0 in
      let b = f.bytes.header in
      let k = f.places in
      record {
        code = b.code;
        code-bytes = b.code-bytes;
        disk = b.disk;
        disk-bytes = b.disk-bytes;
        mark = b.mark;
        mark-bytes = b.mark-bytes;
        one = entry-ok h.partition_1 c.0 b.one k.0;
        two = entry-ok h.partition_2 c.1.0 b.two k.1.0;
        three = entry-ok h.partition_3 c.1.1.0 b.three k.1.1.0;
        four = entry-ok h.partition_4 c.1.1.1.0 b.four k.1.1.1.0;
        signed = two_bytes h.boot_signature f.signature s.signed.0 s.signed.1;
      }

  pub header-holds : AllHold (header_checks t.header)
  header-holds =
      let h = t.header in
      let k = s.flags.0 in
      none-fails (header_checks h)
      (mbr-flags h header_ok ((is-flag h.partition_1).from k.0) ((is-flag h.partition_2).from k.1.0) ((is-flag h.partition_3).from k.1.1.0)
      ((is-flag h.partition_4).from k.1.1.1.0))

-- what a record can hold fits, as writing's laws ask
entry_in : (e : MBRPartitionEntry) → EntryOk e → InByte e
entry_in e k = record { boot = k.boot; first = k.first.head; sys = k.sys; last = k.last.head }

pub header-in : (h : MBRHeader) → MbrOk h → HeaderIn h
header-in h k = record {
  code = k.code;
  code-bytes = k.code-bytes;
  disk = k.disk;
  disk-bytes = k.disk-bytes;
  mark = k.mark;
  mark-bytes = k.mark-bytes;
  one = entry_in h.partition_1 k.one;
  two = entry_in h.partition_2 k.two;
  three = entry_in h.partition_3 k.three;
  four = entry_in h.partition_4 k.four;
}

-- logical partitions that an EBR can hold, and a link lead to
pub writables : (ls : List LogicalPartition) → All LogicalChs ls → All LogicalIn ls → All Writable ls
writables [] c f = tt
writables (l ∷ ls) c f = (
  record {
    kept = f.0.kept;
    sys = f.0.part.sys;
    first = chs-ok l.partition.first_chs c.0.0.0 f.0.part.first;
    last = chs-ok l.partition.last_chs c.0.0.1 f.0.part.last;
  },
  writables ls c.1 f.1,
)

linkable : (l : LogicalPartition) → LogicalChs l → LogicalIn l → link_there l.ebr_sectors l.ebr_last_chs ≡ true → Linkable l
linkable l c f h = go l.ebr_sectors l.ebr_last_chs refl h c.1.1 f.last
  where
    go : (s : Option ℕ) (m : Option CHS) → l.ebr_last_chs ≡ m → link_there s m ≡ true → IfThere m → ChsIn m → Linkable l
    go None m q h i k = let w : ◌≡◌ {A = ℕ} 0 1 = cc in absurd (omega arith)
    go (Some n) None q h i k = let w : ◌≡◌ {A = ℕ} 0 1 = cc in absurd (omega arith)
    go (Some n) (Some a) q h i k = record { tail = a; last = q; first-ok = chs-ok l.ebr_first_chs c.1.0 f.first; last_ok = chs-ok a i k }

-- those behind the first have their link fields once no check of writing fails
pub linkables : (d : ℕ) (l : LogicalPartition) (ls : List LogicalPartition) → All LogicalChs ls → All LogicalIn ls → AllHold (all_rows d (l ∷ ls)) → All Linkable ls
unfolding all_rows
linkables d l [] c f h = tt
linkables d l (m ∷ ms) c f h =
    let r = row_checks d l (next_linked (Some m)) in (
      linkable m c.0 f.0 (hold-left r (all_rows d (m ∷ ms)) h).1.1.0,
      linkables d m ms c.1 f.1 (hold-right r (all_rows d (m ∷ ms)) h),
    )

-- without a complete geometry the addresses stay
pub by-none : (g : Geometry) → complete g ≡ false → (ls : List LogicalPartition) → map (by_geometry g) ls ≡ ls
by-none g c [] = refl
by-none g c (l ∷ ls) = rw (c, by-none g c ls)

-- used starts of at least 1 have an alignment
starts-aligned : (ss : List ℕ) → All (λ s. 1 ≤ s) ss → Aligned ss
unfolding alignment largest_start
starts-aligned [] h = record { align = 2048; found = refl }
starts-aligned (s ∷ ss) h = aligned-of (s ∷ ss) (omega (arith, h.0))

used-starts : (ps : List MBRPartitionEntry) → All (λ e. Used e → 1 ≤ e.starting_lba) ps → All (λ s. 1 ≤ s) (used_starts ps)
unfolding used_starts
used-starts [] h = tt
used-starts (p ∷ ps) h = go (used p.sys) refl (used-starts ps h.1)
  where
    go : (b : Bool) → used p.sys ≡ b → All (λ s. 1 ≤ s) (used_starts ps) → All (λ s. 1 ≤ s) (pick b (p.starting_lba ∷ used_starts ps) (used_starts ps))
    go true q r = (h.0 q, r)
    go false q r = r

pub primaries-aligned : (ps : List MBRPartitionEntry) → All (λ e. Used e → 1 ≤ e.starting_lba) ps → Aligned (used_starts ps)
primaries-aligned ps h = starts-aligned (used_starts ps) (used-starts ps h)
