-- Stores written, links, and an EBR as a store. Assumes nothing.
use mathlib.Core.Path.{◌≡◌, refl, ap, ◌∙◌}
use Rattle.std.specs.Prelude.{Option, None}
use mathlib.Core.List.{List}
use Prim.Native.Nat.{ℕ, ◌+◌, ◌≤◌}
use native.Mathlib.Omega.{arith}
use lib.ListN.{length, length-append}
use Rattle.base.specs.Bytes.{bytes_of, little}
use Rattle.base.specs.Put.{put}
use Rattle.base.proofs.Bytes.{length-bytes_of}
use Rattle.base.proofs.Put.{behind}
use Rattle.record_ebr.proofs.Laws.{ebr-long}
use Rattle.record_entry.specs.declared.MBRPartitionEntry.{MBRPartitionEntry}
use Rattle.record_entry.specs.Entry.{no_entry}
use Rattle.record_ebr.specs.declared.EBRHeader.{EBRHeader}
use Rattle.record_ebr.specs.Ebr.{mark_length, ebr_bytes}
use Rattle.extract.specs.Disk.{Store}
use Rattle.table.specs.declared.LogicalPartition.{LogicalPartition}
use Rattle.chain.specs.Facts.{at, body_of}
use Rattle.chain.specs.Links.{link_entry, ebr_with, ebr_for, write}
use Rattle.careful_stores.specs.Stored.{store_bytes, store_length}
use Rattle.careful_stores.specs.Linked.{link_behind, linked_store}

-- a store is written: its LBA, then its record
pub store-written : (d d₁ d₂ : List ℕ) (i : ℕ) (s : Store) → length s.bytes ≡ 512 → i + store_length ≤ length d
    → d₁ ≡ put d i (bytes_of little 4 s.lba) → d₂ ≡ put d₁ (i + 4) s.bytes
    → (d₂ ≡ put d i (store_bytes s)) × (length (store_bytes s) ≡ store_length)
unfolding store_bytes
store-written d d₁ d₂ i s n h e f =
    let lba = bytes_of little 4 s.lba in (
      behind d d₁ d₂ i 4 lba s.bytes (length-bytes_of little 4 s.lba) (omega arith) e f,
      length-append lba s.bytes ∙ rw (length-bytes_of little 4 s.lba, n),
    )

-- the EBR of a logical partition is written
pub ebr-written : (d d₁ d₂ : List ℕ) (i : ℕ) (l : LogicalPartition) (h : EBRHeader) (link : MBRPartitionEntry) → h ≡ ebr_with l link
    → length l.kept.mark ≡ mark_length → length l.kept.bootstrap_code ≡ 446 → i + store_length ≤ length d → d₁ ≡ put d i (bytes_of little 4 (at l))
    → d₂ ≡ put d₁ (i + 4) (ebr_bytes l.kept.mark h)
    → (d₂ ≡ put d i (store_bytes (linked_store l link))) × (length (store_bytes (linked_store l link)) ≡ store_length)
ebr-written d d₁ d₂ i l h link o w n k e f =
    store-written d d₁ d₂ i (linked_store l link) (ebr-long l.kept.mark (ebr_with l link) w n) k e (f ∙ ap (λ (x : EBRHeader). put d₁ (i + 4) (ebr_bytes l.kept.mark x)) o)

-- links
pub link-none : (e : MBRPartitionEntry) → link_behind e None ≡ no_entry
unfolding link_entry
link-none e = refl

pub write-linked : (e : MBRPartitionEntry) (l : LogicalPartition) (o : Option LogicalPartition) → write e l o ≡ linked_store l (link_behind e o)
unfolding write ebr_for body_of
write-linked e l o = refl
