-- What stands in a block, for the searches over it. Assumes nothing.
use mathlib.Core.Path.{◌≡◌, sym, ap, ◌∙◌}
use mathlib.Core.List.{List, [], ◌∷◌}
use Prim.Native.Nat.{ℕ, ◌≤◌, ◌<◌}
use native.Mathlib.Omega.{arith}
use lib.Seq.{length-take-le, get_or-take}
use Rattle.base.specs.Said.{Said}
use Rattle.table.specs.declared.MBR.{MBR}
use Rattle.table.specs.declared.LogicalPartition.{LogicalPartition}
use Rattle.table_free.specs.Free.{more, zone}
use lib.ListN.{length, get_or}
use Rattle.record_entry.specs.declared.MBRPartitionEntry.{MBRPartitionEntry}
use Rattle.record_entry.specs.Entry.{no_entry}
use Rattle.record_mbr.specs.declared.MBRHeader.{MBRHeader}
use Rattle.record_mbr.specs.Mbr.{primaries}
use Rattle.table.specs.Table.{most, logicals, no_logical}
use Rattle.block.specs.Block.{table_in}
use Rattle.block.proofs.Inside.{slots-in, slots-long}

-- there is a slot for every logical partition
pub slots-all : (b : List ℕ) → length (table_in b).logical_partitions ≡ most
slots-all b = ap length (slots-in b) ∙ slots-long b most

-- the four primaries, one by one
pub four : (h : MBRHeader) (a b c d : MBRPartitionEntry) → a ≡ get_or (primaries h) 0 no_entry → b ≡ get_or (primaries h) 1 no_entry → c ≡ get_or (primaries h) 2 no_entry → d ≡ get_or (primaries h) 3 no_entry
    → a ∷ b ∷ c ∷ d ∷ [] ≡ primaries h
four h a b c d p q r s = rw (p, q, r, s)

-- as many logical partitions as are counted
pub logicals-all : (b : List ℕ) → (table_in b).count ≤ most → length (logicals (table_in b)) ≡ (table_in b).count
logicals-all b h = length-take-le (table_in b).count (table_in b).logical_partitions (omega (arith, slots-all b))

-- the positions of one logical partition more
pub slot-more : (t : MBR) (i : ℕ) → i < t.count → (v w : Said (List ℕ)) (place : ℕ) (e : MBRPartitionEntry)
    → place ≡ (get_or t.logical_partitions i no_logical).absolute_ebr_lba.0 → e ≡ (get_or t.logical_partitions i no_logical).partition → w ≡ more v (zone place e)
    → w ≡ more v (zone (get_or (logicals t) i no_logical).absolute_ebr_lba.0 (get_or (logicals t) i no_logical).partition)
slot-more t i h v w place e p q f =
    let g = get_or-take t.count t.logical_partitions i no_logical h in
    f ∙ ap (λ (a : ℕ). more v (zone a e)) p ∙ ap (λ (x : MBRPartitionEntry). more v (zone (get_or t.logical_partitions i no_logical).absolute_ebr_lba.0 x)) q
    ∙ ap (λ (l : LogicalPartition). more v (zone l.absolute_ebr_lba.0 l.partition)) (sym g)
