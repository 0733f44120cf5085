-- What stands in a block, as the table in it has it. Assumes nothing.
use mathlib.Core.Path.{◌≡◌, refl, ap, ◌∙◌}
use mathlib.Core.List.{List, [], ◌∷◌, ◌++◌}
use mathlib.Core.Bool.{Bool, true, false}
use Prim.Native.Nat.{ℕ, zero, suc, ◌+◌, ◌*◌, ◌≤◌, ◌<◌}
use native.Mathlib.Omega.{arith}
use lib.Dec.{ltb}
use lib.ListN.{length, get_or, length-append, get_or-append}
use lib.Seq.{get_or_at}
use borrow.Author.Tests.{ltb-true, ltb-false}
use Rattle.base.specs.Bytes.{bytes_at, number, little}
use Rattle.record_entry.specs.Entry.{no_entry}
use Rattle.record_mbr.specs.Mbr.{primaries}
use Rattle.table.specs.declared.LogicalPartition.{LogicalPartition}
use Rattle.table.specs.Table.{most, no_logical}
use Rattle.block.specs.Block.{part, entry_from, header_in, slot_of, slot_at, tag_at, slots_in, table_in, entry_length, header_length}

-- the front
pub size_in : (b : List ℕ) → (table_in b).sector_size ≡ number little (bytes_at b 0 4)
unfolding table_in
size_in b = refl

pub disk-in : (b : List ℕ) → (table_in b).disk_size ≡ number little (bytes_at b 4 4)
unfolding table_in
disk-in b = refl

pub align-in : (b : List ℕ) → (table_in b).align ≡ number little (bytes_at b 8 4)
unfolding table_in
align-in b = refl

pub count-in : (b : List ℕ) → (table_in b).count ≡ number little (bytes_at b 12 4)
unfolding table_in
count-in b = refl

pub cylinders-in : (b : List ℕ) → (table_in b).cylinders ≡ number little (bytes_at b 16 2)
unfolding table_in
cylinders-in b = refl

pub heads-in : (b : List ℕ) → (table_in b).heads ≡ get_or b 18 0
unfolding table_in
heads-in b = refl

pub sectors-in : (b : List ℕ) → (table_in b).sectors ≡ get_or b 19 0
unfolding table_in
sectors-in b = refl

-- the header, and its entries
pub header-in : (b : List ℕ) → (table_in b).header ≡ header_in (part b 20 header_length)
unfolding table_in
header-in b = refl

pub primary-in : (b : List ℕ) (i : ℕ) → i < 4 → get_or (primaries (table_in b).header) i no_entry ≡ entry_from (part b 20 header_length) (446 + entry_length * i)
unfolding table_in
primary-in b zero h = refl
primary-in b (suc zero) h = refl
primary-in b (suc (suc zero)) h = refl
primary-in b (suc (suc (suc zero))) h = refl
primary-in b (suc (suc (suc (suc i)))) h = absurd (omega arith)

-- the slots
pub slots-in : (b : List ℕ) → (table_in b).logical_partitions ≡ slots_in b most
unfolding table_in
slots-in b = refl

pub slots-long : (b : List ℕ) (n : ℕ) → length (slots_in b n) ≡ n
unfolding slots_in
slots-long b zero = refl
slots-long b (suc n) = length-append (slots_in b n) (slot_of (tag_at b n) (slot_at b n) ∷ []) ∙ omega (arith, slots-long b n)

slot-last : (b : List ℕ) (n i : ℕ) → (i < n → get_or (slots_in b n) i no_logical ≡ slot_of (tag_at b i) (slot_at b i)) → i < suc n
    → get_or (slots_in b n ++ (slot_of (tag_at b n) (slot_at b n) ∷ [])) i no_logical ≡ slot_of (tag_at b i) (slot_at b i)
slot-last b n i f h = go (ltb i n) refl
  where
    go : (t : Bool) → ltb i n ≡ t → get_or (slots_in b n ++ (slot_of (tag_at b n) (slot_at b n) ∷ [])) i no_logical ≡ slot_of (tag_at b i) (slot_at b i)
    go true e =
        let p : i < n = ltb-true _ _ e in
        get_or-append (slots_in b n) (slot_of (tag_at b n) (slot_at b n) ∷ []) no_logical i (omega (arith, slots-long b n, p)) ∙ f p
    go false e =
        let q : n ≤ i = ltb-false _ _ e in
        let z : i ≡ n = omega (arith, q, h) in
        rw z (get_or_at (slots_in b n) (slot_of (tag_at b n) (slot_at b n)) [] no_logical n (slots-long b n))

slot-of : (b : List ℕ) (n i : ℕ) → i < n → get_or (slots_in b n) i no_logical ≡ slot_of (tag_at b i) (slot_at b i)
unfolding slots_in
slot-of b zero i h = absurd (omega arith)
slot-of b (suc n) i h = slot-last b n i (slot-of b n i) h

pub slot-in : (b : List ℕ) (i : ℕ) → i < most → get_or (table_in b).logical_partitions i no_logical ≡ slot_of (tag_at b i) (slot_at b i)
slot-in b i h = ap (λ (ls : List LogicalPartition). get_or ls i no_logical) (slots-in b) ∙ slot-of b most i h
