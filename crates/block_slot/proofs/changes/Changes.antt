-- The table in a block after each change. Assumes nothing.
use mathlib.Core.Path.{◌≡◌, refl, sym, ap, ◌∙◌}
use mathlib.Core.List.{List, [], ◌∷◌, ◌++◌, append_assoc, append-nil}
use Prim.Native.Nat.{ℕ, ◌+◌, ◌-◌, ◌*◌, ◌≤◌, ◌<◌, ◌^◌}
use native.Mathlib.Nat.{add-zero, zero-add, add_assoc}
use native.Mathlib.Omega.{arith}
use borrow.Author.Tests.{eq-eqb, ne_eqb}
use native.Mathlib.Numerals.{add-one}
use lib.ListN.{length, take, drop, get_or, set, length-drop}
use lib.Seq.{take_all, length-take-le, append_snoc, set_split, get_or-take, get_or-drop}
use Rattle.base.specs.Bytes.{bytes_at, number, bytes_of, little}
use Rattle.base.specs.Put.{put}
use Rattle.base.proofs.Bytes.{number-bytes_of, part-within}
use Rattle.base.proofs.Put.{length-put}
use Rattle.table.specs.declared.LogicalPartition.{LogicalPartition}
use Rattle.table.specs.declared.MBR.{MBR}
use Rattle.table.specs.Table.{most, no_logical, with_logicals}
use Rattle.record_entry.specs.Entry.{no_entry}
use Rattle.record_mbr.specs.declared.MBRHeader.{MBRHeader}
use Rattle.record_mbr.specs.Mbr.{code_of}
use Rattle.table_remove.specs.Less.{without, empty_at, emptied, without_primary}
use Rattle.block.specs.Block.{part, entry_part, entry_from, header_in, slot_part, slots_part, tag_of, tags_part, slot_at, tag_at, slot_put, possible, table_in, entry_length, header_length, slot_length, slots_offset, tags_offset, block_length, Passed}
use Rattle.block.specs.Clean.{Clean}
use Rattle.block.specs.Fits.{SlotFits}
use Rattle.block.proofs.Inside.{size_in, disk-in, count-in, header-in, slots-in, slots-long, slot-in}
use Rattle.block.proofs.Laws.{length-slot}
use Rattle.block_slot.specs.Changed.{with_count, with_slot, without_slot, without_entry, with_disk}
use Rattle.block.proofs.Forth.{part-long}
use Rattle.block.proofs.Over.{Alike, cases, put-before, put-behind, put-within, bytes-alike, part-byte, part_moved, part-alike, part-zero}
use Rattle.block_slot.proofs.changes.Alike.{clean-alike, slots-alike, tags-alike, header-alike, table-by, size-alike, disk-alike, count-alike, tags-each, logical-like, clean-like}
use Rattle.block_slot.proofs.changes.Kept.{slot-clean}
use Rattle.block_slot.proofs.changes.Slots.{table-over, good-over, clean-over, slots-put, slots-good}

-- what is put stands there
pub put-bytes : (s : List ℕ) (at : ℕ) (xs : List ℕ) (n : ℕ) → at + length xs ≤ length s → length xs ≡ n → bytes_at (put s at xs) at n ≡ xs
unfolding put
put-bytes s at xs n h l =
    part-within (take at s ++ xs ++ drop (at + length xs) s) (take at s) xs (drop (at + length xs) s) at n (append_assoc (take at s) xs (drop (at + length xs) s))
    (length-take-le at s (omega arith))
    l

-- another count
module _ (b : List ℕ) (n : ℕ) (g : Passed b) (h : n ≤ most) where
  abbrev c : List ℕ
  c = with_count b n

  room : 12 + length (bytes_of little 4 n) ≤ length b
  room = omega (arith, g.long)

  long : length c ≡ block_length
  long = length-put b 12 (bytes_of little 4 n) room ∙ g.long

  counted : (table_in c).count ≡ n
  counted = count-in c ∙ ap (number little) (put-bytes b 12 (bytes_of little 4 n) 4 room refl) ∙ number-bytes_of little 4 n (omega arith)

  below : (o q : ℕ) → o + q ≤ 12 → Alike c b o q
  below o q u = put-before b 12 (bytes_of little 4 n) room o q u

  above : (o q : ℕ) → 16 ≤ o → Alike c b o q
  above o q u = put-behind b 12 (bytes_of little 4 n) room o q u

  pub count-put : table_in (with_count b n) ≡ with_logicals (table_in b) (table_in b).logical_partitions n
  count-put =
      table-by c b long g.long (table_in b).sector_size (table_in b).disk_size n (table_in b).header (table_in b).logical_partitions
      (below 8 4 (omega arith))
      (above 16 4 (omega arith))
      (size-alike c b long g.long (below 0 4 (omega arith)))
      (disk-alike c b long g.long (below 4 4 (omega arith)))
      counted
      (header-alike c b long g.long (above 20 header_length (omega arith)))
      (slots-alike c b long g.long (above slots_offset (slot_length * most + most) (omega arith)))

  pub count-good : Passed (with_count b n)
  count-good =
      record {
        long = long;
        few = rw counted h;
        tags = tags-alike c b long g.long (above tags_offset most (omega arith)) g.tags;
      }

  pub count-clean : Clean b → Clean (with_count b n)
  count-clean z = clean-alike c b long g.long (above slots_offset (slot_length * most + most) (omega arith)) z

-- one slot
one-slot : (b : List ℕ) (n : ℕ) (l : LogicalPartition) → put (put b (slots_offset + slot_length * n) (slots_part (l ∷ []))) (tags_offset + n) (tags_part (l ∷ [])) ≡ slot_put b n l
unfolding slots_part tags_part slot_put
one-slot b n l = ap (λ (x : List ℕ). put (put b (slots_offset + slot_length * n) x) (tags_offset + n) (tag_of l ∷ [])) (append-nil (slot_part l))

one_set : {A : Type 0} (ls : List A) (n : ℕ) (l : A) → n < length ls → take n ls ++ (l ∷ []) ++ drop (n + 1) ls ≡ set ls n l
one_set ls n l h = append_snoc (take n ls) l (drop (n + 1) ls) ∙ ap (λ (m : ℕ). take n ls ++ l ∷ drop m ls) (add-one n) ∙ sym (set_split ls n l h)

-- a logical partition behind the others
module _ (b : List ℕ) (l : LogicalPartition) (g : Passed b) (f : SlotFits l) (h : (table_in b).count < most) where
  abbrev n : ℕ
  n = (table_in b).count

  counted-good : Passed (with_count b (n + 1))
  counted-good = count-good b (n + 1) g (omega arith)

  pub slot-good : Passed (with_slot b n l)
  unfolding with_slot
  slot-good = rw (one-slot (with_count b (n + 1)) n l) at (slots-good (with_count b (n + 1)) (l ∷ []) n counted-good (f, tt) (omega arith))

  pub slot_kept : Clean b → Clean (with_slot b n l)
  unfolding with_slot slot_put
  slot_kept z =
      let w : length (slot_part l) ≡ slot_length = length-slot l f.kept in
      clean-over (with_count b (n + 1)) (slot_part l) (tag_of l ∷ []) n 1 counted-good w refl (omega arith) (count-clean b (n + 1) g (omega arith) z)
      (λ j u.
      let e : j ≡ 0 = omega arith in
      rw (e, ← part-zero (slot_part l) slot_length, take_all slot_length (slot_part l) (omega arith)) (slot-clean l))

  pub slot-table : table_in (with_slot b n l) ≡ with_logicals (table_in b) (set (table_in b).logical_partitions n l) (n + 1)
  unfolding with_slot
  slot-table =
      let t : MBR = table_in b in
      let d : List ℕ = with_count b (n + 1) in
      let o : length t.logical_partitions ≡ most = ap length (slots-in b) ∙ slots-long b most in
      sym (ap table_in (one-slot d n l)) ∙ slots-put d (l ∷ []) n counted-good (f, tt) (omega arith)
      ∙ ap (λ (u : MBR). with_logicals u (take n u.logical_partitions ++ (l ∷ []) ++ drop (n + 1) u.logical_partitions) u.count) (count-put b (n + 1) g (omega arith))
      ∙ ap (λ (ls : List LogicalPartition). with_logicals t ls (n + 1)) (one_set t.logical_partitions n l (omega arith))

-- the logical partition number k away
module _ (b : List ℕ) (k : ℕ) (g : Passed b) (h : k < (table_in b).count) where
  abbrev m : ℕ
  m = (table_in b).count - 1 - k

  abbrev moved : List ℕ
  moved = part b (slots_offset + slot_length * (k + 1)) (slot_length * m)

  abbrev moved-tags : List ℕ
  moved-tags = part b (tags_offset + (k + 1)) m

  moved-long : length moved ≡ slot_length * m
  moved-long = part-long b (slots_offset + slot_length * (k + 1)) (slot_length * m) (omega (arith, g.long, g.few))

  tags-long : length moved-tags ≡ m
  tags-long = part-long b (tags_offset + (k + 1)) m (omega (arith, g.long, g.few))

  moved-slot : (j : ℕ) → j < m → part moved (slot_length * j) slot_length ≡ slot_at b (k + 1 + j)
  moved-slot j u =
      part_moved moved b (slot_length * j) (slots_offset + slot_length * (k + 1 + j)) slot_length (omega (arith, moved-long)) (omega (arith, g.long, g.few))
      (λ i v.
      let e : slots_offset + slot_length * (k + 1) + (slot_length * j + i) ≡ slots_offset + slot_length * (k + 1 + j) + i = omega arith in
      part-byte b (slots_offset + slot_length * (k + 1)) (slot_length * m) (slot_length * j + i) (omega arith) ∙ ap (λ (q : ℕ). get_or b q 0) e)

  moved-tag : (j : ℕ) → j < m → get_or moved-tags j 0 ≡ tag_at b (k + 1 + j)
  moved-tag j u =
      let e : tags_offset + (k + 1) + j ≡ tags_offset + (k + 1 + j) = omega arith in
      part-byte b (tags_offset + (k + 1)) m j u ∙ ap (λ (q : ℕ). get_or b q 0) e

  less-good : Passed (with_count b ((table_in b).count - 1))
  less-good = count-good b ((table_in b).count - 1) g (omega (arith, g.few))

  pub removal-good : Passed (without_slot b (table_in b).count k)
  unfolding without_slot
  removal-good =
      good-over (with_count b ((table_in b).count - 1)) moved moved-tags k m less-good moved-long tags-long (omega (arith, g.few))
      (λ j u. ap possible (moved-tag j u) ∙ tags-each b 0 most (k + 1 + j) g.tags (omega arith) (omega (arith, g.few)))

  pub removal-kept : Clean b → Clean (without_slot b (table_in b).count k)
  unfolding without_slot
  removal-kept z =
      clean-over (with_count b ((table_in b).count - 1)) moved moved-tags k m less-good moved-long tags-long (omega (arith, g.few)) (count-clean b ((table_in b).count - 1) g (omega (arith, g.few)) z)
      (λ j u. clean-like (moved-tag j u) (moved-slot j u) (z (k + 1 + j) (omega (arith, g.few))))

  pub removal-table : table_in (without_slot b (table_in b).count k) ≡ without (table_in b) k
  unfolding without_slot
  removal-table =
      let t : MBR = table_in b in
      let old : List LogicalPartition = t.logical_partitions in
      let o : length old ≡ most = ap length (slots-in b) ∙ slots-long b most in
      let ls : List LogicalPartition = take m (drop (k + 1) old) in
      let w : length ls ≡ m = length-take-le m (drop (k + 1) old) (omega (arith, length-drop (k + 1) old, g.few)) in
      table-over (with_count b (t.count - 1)) moved moved-tags k m less-good moved-long tags-long (omega (arith, g.few)) ls w
      (λ j u.
      logical-like (moved-tag j u) (moved-slot j u) ∙ sym (slot-in b (k + 1 + j) (omega (arith, g.few)))
      ∙ sym (get_or-take m (drop (k + 1) old) j no_logical u ∙ get_or-drop (k + 1) old j no_logical))
      ∙ ap (λ (u : MBR). with_logicals u (take k u.logical_partitions ++ ls ++ drop (k + length ls) u.logical_partitions) u.count) (count-put b (t.count - 1) g (omega (arith, g.few)))
      ∙ ap (λ (q : ℕ). with_logicals t (take k old ++ ls ++ drop (k + q) old) (t.count - 1)) w

-- the primary number i away
entry-moved : (s t : List ℕ) (a b : ℕ) → ((j : ℕ) → j < entry_length → get_or s (a + j) 0 ≡ get_or t (b + j) 0) → entry_from s a ≡ entry_from t b
entry-moved s t a b h =
    let z : get_or s a 0 ≡ get_or t b 0 = ap (λ (m : ℕ). get_or s m 0) (sym (add-zero a)) ∙ h 0 (omega arith) ∙ ap (λ (m : ℕ). get_or t m 0) (add-zero b) in
    simp
    (z, h 1 (omega arith), h 2 (omega arith), h 3 (omega arith), h 4 (omega arith), h 5 (omega arith), h 6 (omega arith), h 7 (omega arith), h 8 (omega arith), h 9 (omega arith), h 10 (omega arith), h 11 (omega arith), h 12 (omega arith), h 13 (omega arith), h 14 (omega arith), h 15 (omega arith), h 16 (omega arith), h 17 (omega arith), add_assoc)

module _ (b : List ℕ) (i : ℕ) (g : Passed b) (h : 1 ≤ i) (k : i < 5) where
  abbrev at : ℕ
  at = 466 + entry_length * (i - 1)

  abbrev away : List ℕ
  away = put b at (entry_part no_entry)

  away-room : at + length (entry_part no_entry) ≤ length b
  away-room = omega (arith, g.long)

  away-long : length away ≡ block_length
  away-long = length-put b at (entry_part no_entry) away-room ∙ g.long

  away-below : (o q : ℕ) → o + q ≤ at → Alike away b o q
  away-below o q u = put-before b at (entry_part no_entry) away-room o q u

  away-above : (o q : ℕ) → at + entry_length ≤ o → Alike away b o q
  away-above o q u = put-behind b at (entry_part no_entry) away-room o q u

  -- the header's bytes outside of the entry
  header-below : (o q : ℕ) → o + q + 20 ≤ at → Alike (part away 20 header_length) (part b 20 header_length) o q
  header-below o q u j x y =
      part-byte away 20 header_length j (omega arith) ∙ away-below (20 + o) q (omega arith) (20 + j) (omega arith) (omega arith) ∙ sym (part-byte b 20 header_length j (omega arith))

  header-above : (o q : ℕ) → at + entry_length ≤ 20 + o → o + q ≤ header_length → Alike (part away 20 header_length) (part b 20 header_length) o q
  header-above o q u v j x y =
      part-byte away 20 header_length j (omega arith) ∙ away-above (20 + o) q (omega arith) (20 + j) (omega arith) (omega arith) ∙ sym (part-byte b 20 header_length j (omega arith))

  alike-entry : (p : ℕ) → Alike (part away 20 header_length) (part b 20 header_length) (446 + entry_length * p) entry_length → entry_from (part away 20 header_length) (446 + entry_length * p) ≡ entry_from (part b 20 header_length) (446 + entry_length * p)
  alike-entry p f = entry-moved (part away 20 header_length) (part b 20 header_length) (446 + entry_length * p) (446 + entry_length * p) (λ j u. f (446 + entry_length * p + j) (omega arith) (omega arith))

  entry-after : (p : ℕ) → p < 4 → entry_from (part away 20 header_length) (446 + entry_length * p) ≡ empty_at i (p + 1) (entry_from (part b 20 header_length) (446 + entry_length * p))
  entry-after p u = cases (λ (m : ℕ). m ≡ p + 1 → entry_from (part away 20 header_length) (446 + entry_length * p) ≡ empty_at i m (entry_from (part b 20 header_length) (446 + entry_length * p))) i 1 (p + 1)
      (λ v e. rw (ne_eqb i (p + 1) (λ z. omega arith)) (alike-entry p (header-below (446 + entry_length * p) entry_length (omega arith))))
      (λ v w e.
      let z : i ≡ p + 1 = omega arith in
      rw (eq-eqb i (p + 1) z)
      (entry-moved (part away 20 header_length) (entry_part no_entry) (446 + entry_length * p) 0
      (λ j x.
      let n : 20 + (446 + entry_length * p + j) ≡ at + j = omega arith in
      part-byte away 20 header_length (446 + entry_length * p + j) (omega arith) ∙ ap (λ (q : ℕ). get_or away q 0) n ∙ put-within b at (entry_part no_entry) away-room j x ∙ ap (λ (q : ℕ). get_or (entry_part no_entry) q 0) (sym (zero-add j)))))
      (λ v e. rw (ne_eqb i (p + 1) (λ z. omega arith)) (alike-entry p (header-above (446 + entry_length * p) entry_length (omega arith) (omega arith))))
      refl

  header-after : header_in (part away 20 header_length) ≡ emptied (header_in (part b 20 header_length)) i
  unfolding code_of
  header-after =
      let s : List ℕ = part away 20 header_length in
      let t : List ℕ = part b 20 header_length in
      let n : length s ≡ header_length = part-long away 20 header_length (omega (arith, away-long)) in
      let m : length t ≡ header_length = part-long b 20 header_length (omega (arith, g.long)) in
      let c : take 440 s ≡ take 440 t = part-zero s 440 ∙ part-alike s t 0 440 (omega arith) (omega arith) (header-below 0 440 (omega arith)) ∙ sym (part-zero t 440) in
      let d : bytes_at s 440 4 ≡ bytes_at t 440 4 = bytes-alike s t 440 4 (header-below 440 4 (omega arith)) in
      let e : bytes_at s 444 2 ≡ bytes_at t 444 2 = bytes-alike s t 444 2 (header-below 444 2 (omega arith)) in
      let f : bytes_at s 518 2 ≡ bytes_at t 518 2 = bytes-alike s t 518 2 (header-above 518 2 (omega arith) (omega arith)) in
      λ q. record {
        bootstrap_code = c q;
        disk_signature = d q;
        copy_protected = e q;
        partition_1 = entry-after 0 (omega arith) q;
        partition_2 = entry-after 1 (omega arith) q;
        partition_3 = entry-after 2 (omega arith) q;
        partition_4 = entry-after 3 (omega arith) q;
        boot_signature = f q;
      }

  pub entry-good : Passed (without_entry b i)
  unfolding without_entry
  entry-good =
      record {
        long = away-long;
        few = rw (count-alike away b away-long g.long (away-below 12 4 (omega arith))) g.few;
        tags = tags-alike away b away-long g.long (away-above tags_offset most (omega arith)) g.tags;
      }

  pub entry_kept : Clean b → Clean (without_entry b i)
  unfolding without_entry
  entry_kept z = clean-alike away b away-long g.long (away-above slots_offset (slot_length * most + most) (omega arith)) z

  pub entry-table : table_in (without_entry b i) ≡ without_primary (table_in b) i
  unfolding without_entry
  entry-table =
      table-by away b away-long g.long (table_in b).sector_size (table_in b).disk_size (table_in b).count (emptied (table_in b).header i) (table_in b).logical_partitions
      (away-below 8 4 (omega arith))
      (away-below 16 4 (omega arith))
      (size-alike away b away-long g.long (away-below 0 4 (omega arith)))
      (disk-alike away b away-long g.long (away-below 4 4 (omega arith)))
      (count-alike away b away-long g.long (away-below 12 4 (omega arith)))
      (header-in away ∙ header-after ∙ ap (λ (h : MBRHeader). emptied h i) (sym (header-in b)))
      (slots-alike away b away-long g.long (away-above slots_offset (slot_length * most + most) (omega arith)))

-- another sector size and D
module _ (b : List ℕ) (size disk : ℕ) (g : Passed b) (h : size < 2 ^ 32) (k : disk < 2 ^ 32) where
  abbrev front : List ℕ
  front = bytes_of little 4 size ++ bytes_of little 4 disk

  abbrev moved-disk : List ℕ
  moved-disk = put b 0 front

  front-room : 0 + length front ≤ length b
  front-room = omega (arith, g.long)

  front_long : length moved-disk ≡ block_length
  front_long = length-put b 0 front front-room ∙ g.long

  front-there : Alike moved-disk front 0 8
  front-there j x y = ap (λ (q : ℕ). get_or moved-disk q 0) (sym (zero-add j)) ∙ put-within b 0 front front-room j y

  front_above : (o q : ℕ) → 8 ≤ o → Alike moved-disk b o q
  front_above o q u = put-behind b 0 front front-room o q u

  pub disk-good : Passed (with_disk b size disk)
  unfolding with_disk
  disk-good =
      record {
        long = front_long;
        few = rw (count-alike moved-disk b front_long g.long (front_above 12 4 (omega arith))) g.few;
        tags = tags-alike moved-disk b front_long g.long (front_above tags_offset most (omega arith)) g.tags;
      }

  pub disk-kept : Clean b → Clean (with_disk b size disk)
  unfolding with_disk
  disk-kept z = clean-alike moved-disk b front_long g.long (front_above slots_offset (slot_length * most + most) (omega arith)) z

  pub disk-table : table_in (with_disk b size disk)
      ≡ record { sector_size = size; header = (table_in b).header; logical_partitions = (table_in b).logical_partitions; count = (table_in b).count; align = (table_in b).align; cylinders = (table_in b).cylinders; heads = (table_in b).heads; sectors = (table_in b).sectors; disk_size = disk }
  unfolding with_disk
  disk-table =
      table-by moved-disk b front_long g.long size disk (table_in b).count (table_in b).header (table_in b).logical_partitions
      (front_above 8 4 (omega arith))
      (front_above 16 4 (omega arith))
      (size_in moved-disk ∙ ap (number little) (bytes-alike moved-disk front 0 4 (λ j x y. front-there j x (omega arith))) ∙ number-bytes_of little 4 size h)
      (disk-in moved-disk ∙ ap (number little) (bytes-alike moved-disk front 4 4 (λ j x y. front-there j (omega arith) (omega arith))) ∙ number-bytes_of little 4 disk k)
      (count-alike moved-disk b front_long g.long (front_above 12 4 (omega arith)))
      (header-alike moved-disk b front_long g.long (front_above 20 header_length (omega arith)))
      (slots-alike moved-disk b front_long g.long (front_above slots_offset (slot_length * most + most) (omega arith)))
