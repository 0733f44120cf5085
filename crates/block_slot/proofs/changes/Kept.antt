-- A slot that is written has no absent value that is not zero. Assumes nothing.
use Rattle.std.specs.Prelude.{Option, Some, None}
use mathlib.Core.Path.{◌≡◌, refl}
use mathlib.Core.List.{List, ◌++◌}
use Prim.Native.Nat.{ℕ, ◌+◌, ◌%◌, ◌<◌}
use native.Mathlib.Omega.{arith}
use lib.ListN.{replicate}
use Rattle.base.specs.Bytes.{bytes_at, bytes_of, little}
use Rattle.record_chs.specs.declared.CHS.{CHS}
use Rattle.record_entry.specs.declared.MBRPartitionEntry.{MBRPartitionEntry}
use Rattle.table.specs.declared.LogicalPartition.{LogicalPartition}
use Rattle.block.specs.Block.{chs_part, entry_part, sectors_part, sectors_tag, last_part, last_tag, tag_of, kept_part, slot_part}
use Rattle.block.specs.Clean.{SlotClean}

module _ (e : MBRPartitionEntry) (a : ℕ) (f : CHS) (q : List ℕ) where
  abbrev fields : Option ℕ → Option CHS → List ℕ
  fields m n = entry_part e ++ bytes_of little 4 a ++ sectors_part m ++ chs_part f ++ last_part n ++ q

  sectors-zero : (m : Option ℕ) (n : Option CHS) → (sectors_tag m + last_tag n) % 2 ≡ 0 → bytes_at (fields m n) 22 4 ≡ replicate 4 0
  sectors-zero None n z = refl
  sectors-zero (Some v) None z = absurd (omega (arith, z))
  sectors-zero (Some v) (Some c) z = absurd (omega (arith, z))

  last-zero : (m : Option ℕ) (n : Option CHS) → sectors_tag m + last_tag n < 2 → bytes_at (fields m n) 30 4 ≡ replicate 4 0
  last-zero None None z = refl
  last-zero None (Some c) z = absurd (omega (arith, z))
  last-zero (Some v) None z = refl
  last-zero (Some v) (Some c) z = absurd (omega (arith, z))

pub slot-clean : (l : LogicalPartition) → SlotClean (tag_of l) (slot_part l)
unfolding slot_part
slot-clean l =
    record {
      sectors = sectors-zero l.partition l.absolute_ebr_lba.0 l.ebr_first_chs (kept_part l.kept) l.ebr_sectors l.ebr_last_chs;
      last = last-zero l.partition l.absolute_ebr_lba.0 l.ebr_first_chs (kept_part l.kept) l.ebr_sectors l.ebr_last_chs;
    }
