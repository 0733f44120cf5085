-- A block changed where it lies. Assumes nothing.
use Rattle.std.specs.Prelude.{ℕ, ◌+◌, ◌-◌, ◌*◌, List, ◌++◌}
use Rattle.base.specs.Bytes.{bytes_of, little}
use Rattle.base.specs.Put.{put}
use Rattle.record_entry.specs.Entry.{no_entry}
use Rattle.table.specs.declared.LogicalPartition.{LogicalPartition}
use Rattle.block.specs.Block.{part, entry_part, slot_put, entry_length, slot_length, slots_offset, tags_offset}

-- rules Z34 and Z39: another count
abbrev pub with_count : List ℕ → ℕ → List ℕ
with_count b n = put b 12 (bytes_of little 4 n)

-- rule Z34: one logical partition behind n others
unfoldable pub with_slot : List ℕ → ℕ → LogicalPartition → List ℕ
with_slot b n l = slot_put (with_count b (n + 1)) n l

-- rule Z39: n logical partitions without number k, counted from 0; the later slots and tags stand one earlier, the old last one stays
unfoldable pub without_slot : List ℕ → ℕ → ℕ → List ℕ
without_slot b n k =
    put (put (with_count b (n - 1)) (slots_offset + slot_length * k) (part b (slots_offset + slot_length * (k + 1)) (slot_length * (n - 1 - k)))) (tags_offset + k) (part b (tags_offset + (k + 1)) (n - 1 - k))

-- rule Z39: the primary number i, 1 to 4, is the empty entry
unfoldable pub without_entry : List ℕ → ℕ → List ℕ
without_entry b i = put b (466 + entry_length * (i - 1)) (entry_part no_entry)

-- rule Z46: another sector size and D
unfoldable pub with_disk : List ℕ → ℕ → ℕ → List ℕ
with_disk b size disk = put b 0 (bytes_of little 4 size ++ bytes_of little 4 disk)
