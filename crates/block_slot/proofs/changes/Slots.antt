-- The slots of a block with others laid over some of them. Assumes nothing.
use mathlib.Core.Path.{◌≡◌, refl, sym, ap, ◌∙◌}
use mathlib.Core.List.{List, [], ◌∷◌, ◌++◌}
use mathlib.Core.Bool.{true}
use Prim.Native.Nat.{ℕ, zero, suc, ◌+◌, ◌-◌, ◌*◌, ◌≤◌, ◌<◌}
use native.Mathlib.Omega.{arith}
use lib.ListN.{length, take, drop, get_or, length-append, length-drop}
use lib.Seq.{length-take-le, get_or-append-add}
use Rattle.base.specs.Put.{put}
use Rattle.base.proofs.Put.{length-put}
use Rattle.table.specs.declared.LogicalPartition.{LogicalPartition}
use Rattle.table.specs.Table.{most, no_logical, with_logicals}
use Rattle.block.specs.Block.{part, slot_part, slot_of, tags_part, slots_part, slot_at, tag_at, possible, table_in, header_length, slot_length, slots_offset, tags_offset, block_length, Passed}
use Rattle.block.specs.Clean.{SlotClean, Clean}
use Rattle.block.specs.Fits.{SlotFits, SlotsFit}
use Rattle.block.proofs.Inside.{slots-in, slots-long, slot-in}
use Rattle.block.proofs.Laws.{length-slot, length-tags, part_at}
use Rattle.block.proofs.Back.{slot-back, slot-tag, tag-there, length-slots}
use Rattle.block.proofs.Over.{Alike, cases, over-before, over-within, over-behind, put-before, put-behind, put-within, part_moved}
use Rattle.block_slot.proofs.changes.Alike.{slots-are, slot-alike, header-alike, table-by, size-alike, disk-alike, count-alike, tags-each, tags-all, logical-like, clean-like}

-- m slots, and their tags, laid over those from number k on
module _ (b xs ts : List ℕ) (k m : ℕ) (g : Passed b) (x : length xs ≡ slot_length * m) (y : length ts ≡ m) (h : k + m ≤ most) where
  abbrev a : List ℕ
  a = put b (slots_offset + slot_length * k) xs

  abbrev c : List ℕ
  c = put a (tags_offset + k) ts

  room : slots_offset + slot_length * k + length xs ≤ length b
  room = omega (arith, g.long)

  half : length a ≡ block_length
  half = length-put b (slots_offset + slot_length * k) xs room ∙ g.long

  rest : tags_offset + k + length ts ≤ length a
  rest = omega (arith, half)

  long : length c ≡ block_length
  long = length-put a (tags_offset + k) ts rest ∙ half

  -- before the first of the slots, and between the last and its tags
  low : (o n : ℕ) → o + n ≤ slots_offset + slot_length * k → Alike c b o n
  low o n u j v w = put-before a (tags_offset + k) ts rest o n (omega arith) j v w ∙ put-before b (slots_offset + slot_length * k) xs room o n u j v w

  middle : (o n : ℕ) → slots_offset + slot_length * k + slot_length * m ≤ o → o + n ≤ tags_offset + k → Alike c b o n
  middle o n u z j v w = put-before a (tags_offset + k) ts rest o n z j v w ∙ put-behind b (slots_offset + slot_length * k) xs room o n (omega arith) j v w

  before : (i : ℕ) → i < k → slot_at c i ≡ slot_at b i
  before i u = slot-alike c b long g.long i (omega arith) (low (slots_offset + slot_length * i) slot_length (omega arith))

  behind : (i : ℕ) → k + m ≤ i → i < most → slot_at c i ≡ slot_at b i
  behind i u v = slot-alike c b long g.long i v (middle (slots_offset + slot_length * i) slot_length (omega arith) (omega arith))

  within : (i : ℕ) → k ≤ i → i < k + m → slot_at c i ≡ part xs (slot_length * (i - k)) slot_length
  within i u v =
      part_moved c xs (slots_offset + slot_length * i) (slot_length * (i - k)) slot_length (omega (arith, long)) (omega arith)
      (λ j n.
      let e : slots_offset + slot_length * i + j ≡ slots_offset + slot_length * k + (slot_length * (i - k) + j) = omega arith in
      put-before a (tags_offset + k) ts rest (slots_offset + slot_length * i) slot_length (omega arith) (slots_offset + slot_length * i + j) (omega arith) (omega arith)
      ∙ ap (λ (q : ℕ). get_or a q 0) e ∙ put-within b (slots_offset + slot_length * k) xs room (slot_length * (i - k) + j) (omega arith))

  tag-before : (i : ℕ) → i < k → tag_at c i ≡ tag_at b i
  tag-before i u = middle (tags_offset + i) 1 (omega arith) (omega arith) (tags_offset + i) (omega arith) (omega arith)

  tag-behind : (i : ℕ) → k + m ≤ i → i < most → tag_at c i ≡ tag_at b i
  tag-behind i u v =
      put-behind a (tags_offset + k) ts rest (tags_offset + i) 1 (omega arith) (tags_offset + i) (omega arith) (omega arith)
      ∙ put-behind b (slots_offset + slot_length * k) xs room (tags_offset + i) 1 (omega arith) (tags_offset + i) (omega arith) (omega arith)

  tag-within : (i : ℕ) → k ≤ i → i < k + m → tag_at c i ≡ get_or ts (i - k) 0
  tag-within i u v =
      let e : tags_offset + i ≡ tags_offset + k + (i - k) = omega arith in
      ap (λ (q : ℕ). get_or c q 0) e ∙ put-within a (tags_offset + k) ts rest (i - k) (omega arith)

  abbrev old : List LogicalPartition
  old = (table_in b).logical_partitions

  -- the logical partitions: ls in the place of as many from number k on
  slots-over : (ls : List LogicalPartition) → length ls ≡ m → ((j : ℕ) → j < m → slot_of (get_or ts j 0) (part xs (slot_length * j) slot_length) ≡ get_or ls j no_logical)
      → (table_in c).logical_partitions ≡ take k old ++ ls ++ drop (k + length ls) old
  slots-over ls n f =
      let o : length old ≡ most = ap length (slots-in b) ∙ slots-long b most in
      let r : k + length ls ≤ length old = omega arith in
      let w : length (take k old ++ ls ++ drop (k + length ls) old) ≡ most =
      length-append (take k old ++ ls) (drop (k + length ls) old) ∙ omega (arith, length-append (take k old) ls, length-take-le k old (omega arith), length-drop (k + length ls) old) in
      slots-are c (take k old ++ ls ++ drop (k + length ls) old) w
      (λ i u.
      cases (λ (i : ℕ). i < most → slot_of (tag_at c i) (slot_at c i) ≡ get_or (take k old ++ ls ++ drop (k + length ls) old) i no_logical) k m i
      (λ v u. logical-like (tag-before i v) (before i v) ∙ sym (slot-in b i u) ∙ sym (over-before no_logical old ls k r i v))
      (λ v w u.
      let z : k + (i - k) ≡ i = omega arith in
      logical-like (tag-within i v w) (within i v w) ∙ f (i - k) (omega arith) ∙ sym (over-within no_logical old ls k r (i - k) (omega arith))
      ∙ ap (λ (q : ℕ). get_or (take k old ++ ls ++ drop (k + length ls) old) q no_logical) z)
      (λ v u. logical-like (tag-behind i v u) (behind i v u) ∙ sym (slot-in b i u) ∙ sym (over-behind no_logical old ls k r i (omega arith)))
      u)

  -- the table: all else as it was
  pub table-over : (ls : List LogicalPartition) → length ls ≡ m → ((j : ℕ) → j < m → slot_of (get_or ts j 0) (part xs (slot_length * j) slot_length) ≡ get_or ls j no_logical)
      → table_in c ≡ with_logicals (table_in b) (take k old ++ ls ++ drop (k + length ls) old) (table_in b).count
  table-over ls n f =
      let f₀ : (o q : ℕ) → o + q ≤ slots_offset → Alike c b o q = λ o q v. low o q (omega arith) in
      table-by c b long g.long (table_in b).sector_size (table_in b).disk_size (table_in b).count (table_in b).header (take k old ++ ls ++ drop (k + length ls) old)
      (f₀ 8 4 (omega arith))
      (f₀ 16 4 (omega arith))
      (size-alike c b long g.long (f₀ 0 4 (omega arith)))
      (disk-alike c b long g.long (f₀ 4 4 (omega arith)))
      (count-alike c b long g.long (f₀ 12 4 (omega arith)))
      (header-alike c b long g.long (f₀ 20 header_length (omega arith)))
      (slots-over ls n f)

  -- it still passes its checks
  pub good-over : ((j : ℕ) → j < m → possible (get_or ts j 0) ≡ true) → Passed c
  good-over f =
      record {
        long = long;
        few = rw (count-alike c b long g.long (low 12 4 (omega arith))) g.few;
        tags =
            tags-all c 0 most
            (λ i u v.
            cases (λ (i : ℕ). i < most → possible (tag_at c i) ≡ true) k m i
            (λ w v. ap possible (tag-before i w) ∙ tags-each b 0 most i g.tags (omega arith) (omega arith))
            (λ w z v. ap possible (tag-within i w z) ∙ f (i - k) (omega arith))
            (λ w v. ap possible (tag-behind i w v) ∙ tags-each b 0 most i g.tags (omega arith) (omega arith))
            (omega arith));
      }

  -- absent values stay zero
  pub clean-over : Clean b → ((j : ℕ) → j < m → SlotClean (get_or ts j 0) (part xs (slot_length * j) slot_length)) → Clean c
  clean-over z f i u =
      cases (λ (i : ℕ). i < most → SlotClean (tag_at c i) (slot_at c i)) k m i
      (λ v u. clean-like (tag-before i v) (before i v) (z i u))
      (λ v w u. clean-like (tag-within i v w) (within i v w) (f (i - k) (omega arith)))
      (λ v u. clean-like (tag-behind i v u) (behind i v u) (z i u))
      u

-- the bytes of a list of slots, one by one
pub slots-part : (ls : List LogicalPartition) (j : ℕ) → SlotsFit ls → j < length ls
    → (part (slots_part ls) (slot_length * j) slot_length ≡ slot_part (get_or ls j no_logical)) × SlotFits (get_or ls j no_logical)
unfolding slots_part
slots-part [] j k h = absurd (omega arith)
slots-part (l ∷ ls) zero k h = (part_at (slot_part l ++ slots_part ls) [] (slot_part l) (slots_part ls) (slot_length * 0) slot_length refl refl (length-slot l k.0.kept), k.0)
slots-part (l ∷ ls) (suc j) k h =
    let n : length (slot_part l) ≡ slot_length = length-slot l k.0.kept in
    let r = slots-part ls j k.1 (omega arith) in
    let s : length (slots_part ls) ≡ slot_length * length ls = length-slots ls k.1 in
    let e : part (slot_part l ++ slots_part ls) (slot_length * suc j) slot_length ≡ part (slots_part ls) (slot_length * j) slot_length =
    part_moved (slot_part l ++ slots_part ls) (slots_part ls) (slot_length * suc j) (slot_length * j) slot_length
    (omega (arith, length-append (slot_part l) (slots_part ls)))
    (omega arith)
    (λ i u.
    let z : slot_length * suc j + i ≡ length (slot_part l) + (slot_length * j + i) = omega arith in
    ap (λ (q : ℕ). get_or (slot_part l ++ slots_part ls) q 0) z ∙ get_or-append-add (slot_part l) (slots_part ls) (slot_length * j + i) 0) in
    (e ∙ r.0, r.1)

-- logical partitions written over the slots from number k on
module _ (b : List ℕ) (ls : List LogicalPartition) (k : ℕ) (g : Passed b) (s : SlotsFit ls) (h : k + length ls ≤ most) where
  pub slots-put : table_in (put (put b (slots_offset + slot_length * k) (slots_part ls)) (tags_offset + k) (tags_part ls))
      ≡ with_logicals (table_in b) (take k (table_in b).logical_partitions ++ ls ++ drop (k + length ls) (table_in b).logical_partitions) (table_in b).count
  slots-put =
      table-over b (slots_part ls) (tags_part ls) k (length ls) g (length-slots ls s) (length-tags ls) h ls refl
      (λ j u. logical-like (tag-there ls j u) (slots-part ls j s u).0 ∙ slot-back (get_or ls j no_logical) (slots-part ls j s u).1)

  pub slots-good : Passed (put (put b (slots_offset + slot_length * k) (slots_part ls)) (tags_offset + k) (tags_part ls))
  slots-good =
      good-over b (slots_part ls) (tags_part ls) k (length ls) g (length-slots ls s) (length-tags ls) h (λ j u. ap possible (tag-there ls j u) ∙ slot-tag (get_or ls j no_logical))
