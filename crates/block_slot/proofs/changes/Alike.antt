-- The tables in two blocks that are alike in parts, and blocks that pass their checks. Assumes nothing.
use mathlib.Core.Path.{◌≡◌, refl, sym, ap, subst, ◌∙◌}
use mathlib.Core.List.{List}
use mathlib.Core.Bool.{true}
use Prim.Native.Nat.{ℕ, zero, suc, ◌+◌, ◌-◌, ◌*◌, ◌≤◌, ◌<◌}
use native.Mathlib.Omega.{arith}
use lib.ListN.{length, get_or}
use lib.Seq.{ext_get_or}
use Rattle.base.specs.Bytes.{number, little}
use Rattle.base.specs.Said.{gives, refuses}
use Rattle.base.specs.Checks.{answer}
use Rattle.base.proofs.Checks.{checked-none}
use Rattle.record_mbr.specs.declared.MBRHeader.{MBRHeader}
use Rattle.table.specs.declared.LogicalPartition.{LogicalPartition}
use Rattle.table.specs.declared.MBR.{MBR}
use Rattle.table.specs.Table.{most, no_logical}
use Rattle.block.specs.Block.{header_in, slot_of, slot_at, tag_at, possible, tagged, table_in, block_checks, header_length, slot_length, slots_offset, tags_offset, block_length, Passed}
use Rattle.block.specs.Clean.{SlotClean, Clean}
use Rattle.block.proofs.Forth.{tagged-at}
use Rattle.block.proofs.Inside.{size_in, disk-in, align-in, count-in, cylinders-in, heads-in, sectors-in, header-in, slots-in, slots-long, slot-in}
use Rattle.block.proofs.Over.{Alike, bytes-alike, part-alike}
use Rattle.block.proofs.calls.Laws.{passes}

-- the slots are those of a list
pub slots-are : (b : List ℕ) (ls : List LogicalPartition) → length ls ≡ most → ((i : ℕ) → i < most → slot_of (tag_at b i) (slot_at b i) ≡ get_or ls i no_logical)
    → (table_in b).logical_partitions ≡ ls
slots-are b ls l f =
    let n : length (table_in b).logical_partitions ≡ most = ap length (slots-in b) ∙ slots-long b most in
    ext_get_or no_logical (table_in b).logical_partitions ls (n ∙ sym l)
    (λ i h.
    let k : i < most = omega (arith, n) in
    slot-in b i k ∙ f i k)

-- each tag is possible
pub tags-each : (b : List ℕ) (i n j : ℕ) → tagged b i n ≡ true → i ≤ j → j < i + n → possible (tag_at b j) ≡ true
tags-each b i n j t x y =
    let z : i + (j - i) ≡ j = omega arith in
    ap (λ (m : ℕ). possible (tag_at b m)) (sym z) ∙ tagged-at b i n (j - i) t (omega arith)

pub tags-all : (b : List ℕ) (i n : ℕ) → ((j : ℕ) → i ≤ j → j < i + n → possible (tag_at b j) ≡ true) → tagged b i n ≡ true
unfolding tagged
tags-all b i zero f = refl
tags-all b i (suc n) f = rw (f i (omega arith) (omega arith)) (tags-all b (suc i) n (λ j x y. f j (omega arith) (omega arith)))

-- the same tag and the same bytes are the same logical partition, and as clean
pub logical-like : {t u : ℕ} {r s : List ℕ} → t ≡ u → r ≡ s → slot_of t r ≡ slot_of u s
logical-like {u = u} {r = r} e f = ap (λ (v : ℕ). slot_of v r) e ∙ ap (slot_of u) f

pub clean-like : {t u : ℕ} {r s : List ℕ} → t ≡ u → r ≡ s → SlotClean u s → SlotClean t r
clean-like {t = t} {s = s} e f z = subst (SlotClean t) (sym f) (subst (λ (v : ℕ). SlotClean v s) (sym e) z)

module _ (a b : List ℕ) (k : length a ≡ block_length) (l : length b ≡ block_length) where
  pub slot-alike : (i : ℕ) → i < most → Alike a b (slots_offset + slot_length * i) slot_length → slot_at a i ≡ slot_at b i
  slot-alike i h f = part-alike a b (slots_offset + slot_length * i) slot_length (omega arith) (omega arith) f

  -- slots and tags
  pub slots-alike : Alike a b slots_offset (slot_length * most + most) → (table_in a).logical_partitions ≡ (table_in b).logical_partitions
  slots-alike f =
      slots-are a (table_in b).logical_partitions (ap length (slots-in b) ∙ slots-long b most)
      (λ i h.
      logical-like (f (tags_offset + i) (omega arith) (omega arith)) (slot-alike i h (λ j x y. f j (omega arith) (omega arith))) ∙ sym (slot-in b i h))

  pub clean-alike : Alike a b slots_offset (slot_length * most + most) → Clean b → Clean a
  clean-alike f z i h = clean-like (f (tags_offset + i) (omega arith) (omega arith)) (slot-alike i h (λ j x y. f j (omega arith) (omega arith))) (z i h)

  pub tags-alike : Alike a b tags_offset most → tagged b 0 most ≡ true → tagged a 0 most ≡ true
  tags-alike f t = tags-all a 0 most (λ i x y. ap possible (f (tags_offset + i) (omega arith) (omega arith)) ∙ tags-each b 0 most i t x y)

  pub header-alike : Alike a b 20 header_length → (table_in a).header ≡ (table_in b).header
  header-alike f = header-in a ∙ ap header_in (part-alike a b 20 header_length (omega arith) (omega arith) f) ∙ sym (header-in b)

  -- alignment and geometry are alike, and all else is known
  pub table-by : (s d n : ℕ) (h : MBRHeader) (ls : List LogicalPartition) → Alike a b 8 4 → Alike a b 16 4 → (table_in a).sector_size ≡ s → (table_in a).disk_size ≡ d
      → (table_in a).count ≡ n → (table_in a).header ≡ h → (table_in a).logical_partitions ≡ ls
      → table_in a ≡ record { sector_size = s; header = h; logical_partitions = ls; count = n; align = (table_in b).align; cylinders = (table_in b).cylinders; heads = (table_in b).heads; sectors = (table_in b).sectors; disk_size = d }
  table-by s d n h ls f g es ed en eh el =
      let al : (table_in a).align ≡ (table_in b).align = align-in a ∙ ap (number little) (bytes-alike a b 8 4 f) ∙ sym (align-in b) in
      let cy : (table_in a).cylinders ≡ (table_in b).cylinders =
      cylinders-in a ∙ ap (number little) (bytes-alike a b 16 2 (λ j x y. g j x (omega arith))) ∙ sym (cylinders-in b) in
      let hd : (table_in a).heads ≡ (table_in b).heads = heads-in a ∙ g 18 (omega arith) (omega arith) ∙ sym (heads-in b) in
      let sc : (table_in a).sectors ≡ (table_in b).sectors = sectors-in a ∙ g 19 (omega arith) (omega arith) ∙ sym (sectors-in b) in
      λ i. record {
        sector_size = es i;
        header = eh i;
        logical_partitions = el i;
        count = en i;
        align = al i;
        cylinders = cy i;
        heads = hd i;
        sectors = sc i;
        disk_size = ed i;
      }

  pub size-alike : Alike a b 0 4 → (table_in a).sector_size ≡ (table_in b).sector_size
  size-alike f = size_in a ∙ ap (number little) (bytes-alike a b 0 4 f) ∙ sym (size_in b)

  pub disk-alike : Alike a b 4 4 → (table_in a).disk_size ≡ (table_in b).disk_size
  disk-alike f = disk-in a ∙ ap (number little) (bytes-alike a b 4 4 f) ∙ sym (disk-in b)

  pub count-alike : Alike a b 12 4 → (table_in a).count ≡ (table_in b).count
  count-alike f = count-in a ∙ ap (number little) (bytes-alike a b 12 4 f) ∙ sym (count-in b)

-- what a block says that passes its checks
pub good-says : (b : List ℕ) (t : MBR) → Passed b → table_in b ≡ t → answer (block_checks b) (table_in b) ≡ gives t
good-says b t g e = checked-none (block_checks b) refuses (gives (table_in b)) (passes b g) ∙ ap gives e
