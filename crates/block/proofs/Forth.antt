-- A block that passes the checks, its absent values zero, is the block of the table in it. Assumes nothing.
use mathlib.Core.Path.{◌≡◌, refl, sym, ap, ◌∙◌}
use mathlib.Core.List.{List, [], ◌∷◌, ◌++◌}
use mathlib.Core.Bool.{Bool, true, false}
use Rattle.std.specs.Prelude.{None, Some}
use Prim.Native.Nat.{ℕ, zero, suc, ◌+◌, ◌*◌, ◌%◌, ◌≤◌, ◌<◌}
use native.Mathlib.Nat.{add-zero, zero-add, add_assoc}
use native.Mathlib.Omega.{arith}
use lib.Dec.{eqb, ltb}
use lib.ListN.{length, take, drop, get_or, replicate, length-drop}
use lib.Seq.{take_all, take-suc, drop-drop, get_or-drop, length-take-le}
use borrow.Author.Tests.{eqb-true, eqb-false, leb-true, ltb-true, ltb-false}
use Rattle.base.specs.Pick.{pick}
use Rattle.base.specs.Bytes.{Bytes, bytes_at, number, bytes_of, little}
use Rattle.base.specs.Checks.{first-fail}
use Rattle.base.proofs.Bytes.{byte_at, bytes_take, bytes_drop, bytes_of-number, bytes_at-part, parts_join, both_true}
use Rattle.base.proofs.Checks.{none-fails}
use Rattle.record_ebr.specs.Ebr.{mark_length, kept_at}
use Rattle.record_mbr.specs.Mbr.{code_of}
use Rattle.table.specs.Table.{most}
use Rattle.block.specs.Block.{part, chs_part, chs_in, entry_part, entry_from, sectors_part, sectors_tag, sectors_in, last_part, last_tag, last_chs_in, kept_part, slot_part, slot_of, tag_of, header_part, header_in, front_part, slots_part, tags_part, slot_at, tag_at, slots_in, possible, tagged, block_bytes, table_in, block_checks, header_length, slot_code, slot_mark, slot_length, slots_offset, tags_offset, block_length}
use Rattle.block.specs.Clean.{SlotClean, Clean}
use Rattle.block.proofs.Laws.{slots-snoc, tags-snoc}

-- the bytes of what is read are those bytes
module _ (s : List ℕ) (b : Bytes s) where
  byte : (i : ℕ) → get_or s i 0 < 256
  byte = byte_at s b

  two-forth : (at : ℕ) → bytes_of little 2 (number little (bytes_at s at 2)) ≡ bytes_at s at 2
  two-forth at = bytes_of-number little (bytes_at s at 2) (byte _, (byte _, tt))

  four-forth : (at : ℕ) → bytes_of little 4 (number little (bytes_at s at 4)) ≡ bytes_at s at 4
  four-forth at = bytes_of-number little (bytes_at s at 4) (byte _, (byte _, (byte _, (byte _, tt))))

  chs-forth : (at : ℕ) → chs_part (chs_in s at) ≡ bytes_at s at 4
  chs-forth at = cc (two-forth at)

  entry-forth : (at : ℕ) → entry_part (entry_from s at) ≡ bytes_at s at 18
  entry-forth at =
      cc (two-forth (at + 1), two-forth (at + 6), four-forth (at + 10), four-forth (at + 14), add_assoc at 1 1, add_assoc at 1 2, add_assoc at 1 3, add_assoc at 6 1, add_assoc at 6 2, add_assoc at 6 3, add_assoc at 10 1, add_assoc at 10 2, add_assoc at 10 3, add_assoc at 14 1, add_assoc at 14 2, add_assoc at 14 3)

  sectors-forth : (tag : ℕ) → (tag % 2 ≡ 0 → bytes_at s 22 4 ≡ replicate 4 0) → sectors_part (sectors_in tag s 22) ≡ bytes_at s 22 4
  sectors-forth tag z = go (eqb (tag % 2) 0) refl
    where
      go : (t : Bool) → eqb (tag % 2) 0 ≡ t → sectors_part (pick t None (Some (number little (bytes_at s 22 4)))) ≡ bytes_at s 22 4
      go true e = sym (z (eqb-true _ _ e))
      go false e = four-forth 22

  last-forth : (tag : ℕ) → (tag < 2 → bytes_at s 30 4 ≡ replicate 4 0) → last_part (last_chs_in tag s 30) ≡ bytes_at s 30 4
  last-forth tag z = go (ltb tag 2) refl
    where
      go : (t : Bool) → ltb tag 2 ≡ t → last_part (pick t None (Some (chs_in s 30))) ≡ bytes_at s 30 4
      go true e = sym (z (ltb-true _ _ e))
      go false e = chs-forth 30

-- a possible tag is that of the partition in its slot
tag-forth : (tag : ℕ) (s : List ℕ) → possible tag ≡ true → tag_of (slot_of tag s) ≡ tag
tag-forth tag s p = go (eqb (tag % 2) 0) (ltb tag 2) refl refl
  where
    small : tag ≤ 3
    small = leb-true _ _ p

    go : (x y : Bool) → eqb (tag % 2) 0 ≡ x → ltb tag 2 ≡ y
        → sectors_tag (pick x None (Some (number little (bytes_at s 22 4)))) + last_tag (pick y None (Some (chs_in s 30))) ≡ tag
    go true true e f = omega (arith, small, eqb-true (tag % 2) 0 e, ltb-true tag 2 f)
    go true false e f = omega (arith, small, eqb-true (tag % 2) 0 e, ltb-false tag 2 f)
    go false true e f = omega (arith, small, eqb-false (tag % 2) 0 e, ltb-true tag 2 f)
    go false false e f = omega (arith, small, eqb-false (tag % 2) 0 e, ltb-false tag 2 f)

kept-forth : (s : List ℕ) → kept_part (kept_at slot_code slot_mark s) ≡ take (446 + mark_length) (drop slot_code s)
unfolding kept_at
kept-forth s =
    parts_join (drop slot_code s) (take 446 (drop slot_code s)) (take mark_length (drop slot_mark s)) 446 mark_length (446 + mark_length) refl (ap (take mark_length) (sym (drop-drop 446 slot_code s))) refl

pub part-long : (b : List ℕ) (at n : ℕ) → at + n ≤ length b → length (part b at n) ≡ n
unfolding part
part-long b at n h =
    let l : n ≤ length (drop at b) = omega (arith, length-drop at b) in
    length-take-le n (drop at b) l

part_bytes : (b : List ℕ) (at n : ℕ) → Bytes b → Bytes (part b at n)
unfolding part
part_bytes b at n k = bytes_take n (drop at b) (bytes_drop at b k)

part-is : (b : List ℕ) (at n : ℕ) → part b at n ≡ take n (drop at b)
unfolding part
part-is b at n = refl

slot-forth : (tag : ℕ) (s : List ℕ) → Bytes s → length s ≡ slot_length → SlotClean tag s → slot_part (slot_of tag s) ≡ s
unfolding slot_part
slot-forth tag s b n k =
    let there : (at m : ℕ) → at + m ≤ slot_length → bytes_at s at m ≡ take m (drop at s) = λ at m h. bytes_at-part s at m (omega (arith, n)) in
    let l = slot_of tag s in
    let x₁ : List ℕ = entry_part l.partition in
    let x₂ : List ℕ = x₁ ++ bytes_of little 4 l.absolute_ebr_lba.0 in
    let x₃ : List ℕ = x₂ ++ sectors_part l.ebr_sectors in
    let x₄ : List ℕ = x₃ ++ chs_part l.ebr_first_chs in
    let x₅ : List ℕ = x₄ ++ last_part l.ebr_last_chs in
    let y₁ : x₁ ≡ take 18 s = entry-forth s b 0 ∙ there 0 18 (omega arith) in
    let y₂ : x₂ ≡ take 22 s = parts_join s x₁ _ 18 4 22 y₁ (four-forth s b 18 ∙ there 18 4 (omega arith)) refl in
    let y₃ : x₃ ≡ take 26 s = parts_join s x₂ _ 22 4 26 y₂ (sectors-forth s b tag k.sectors ∙ there 22 4 (omega arith)) refl in
    let y₄ : x₄ ≡ take 30 s = parts_join s x₃ _ 26 4 30 y₃ (chs-forth s b 26 ∙ there 26 4 (omega arith)) refl in
    let y₅ : x₅ ≡ take 34 s = parts_join s x₄ _ 30 4 34 y₄ (last-forth s b tag k.last ∙ there 30 4 (omega arith)) refl in
    parts_join s x₅ _ slot_code (446 + mark_length) slot_length y₅ (kept-forth s) refl ∙ take_all slot_length s (omega (arith, n))

code-forth : (s : List ℕ) → code_of s ≡ take 440 s
unfolding code_of
code-forth s = refl

header-forth : (s : List ℕ) → Bytes s → length s ≡ header_length → header_part (header_in s) ≡ s
unfolding header_part
header-forth s b n =
    let there : (at m : ℕ) → at + m ≤ header_length → bytes_at s at m ≡ take m (drop at s) = λ at m h. bytes_at-part s at m (omega (arith, n)) in
    let x₁ : List ℕ = code_of s in
    let x₂ : List ℕ = x₁ ++ bytes_at s 440 4 in
    let x₃ : List ℕ = x₂ ++ bytes_at s 444 2 in
    let e₁ : List ℕ = entry_part (entry_from s 446) in
    let e₂ : List ℕ = entry_part (entry_from s 464) in
    let e₃ : List ℕ = entry_part (entry_from s 482) in
    let e₄ : List ℕ = entry_part (entry_from s 500) in
    let y₂ : x₂ ≡ take 444 s = parts_join s x₁ (bytes_at s 440 4) 440 4 444 (code-forth s) (there 440 4 (omega arith)) refl in
    let y₃ : x₃ ≡ take 446 s = parts_join s x₂ (bytes_at s 444 2) 444 2 446 y₂ (there 444 2 (omega arith)) refl in
    let w₁ : e₁ ≡ take 18 (drop 446 s) = entry-forth s b 446 ∙ there 446 18 (omega arith) in
    let w₂ : e₁ ++ e₂ ≡ take 36 (drop 446 s) = parts_join (drop 446 s) e₁ e₂ 18 18 36 w₁ (entry-forth s b 464 ∙ there 464 18 (omega arith) ∙ ap (take 18) (sym (drop-drop 18 446 s))) refl in
    let w₃ : e₁ ++ e₂ ++ e₃ ≡ take 54 (drop 446 s) = parts_join (drop 446 s) (e₁ ++ e₂) e₃ 36 18 54 w₂ (entry-forth s b 482 ∙ there 482 18 (omega arith) ∙ ap (take 18) (sym (drop-drop 36 446 s))) refl in
    let w₄ : e₁ ++ e₂ ++ e₃ ++ e₄ ≡ take 72 (drop 446 s) = parts_join (drop 446 s) (e₁ ++ e₂ ++ e₃) e₄ 54 18 72 w₃ (entry-forth s b 500 ∙ there 500 18 (omega arith) ∙ ap (take 18) (sym (drop-drop 54 446 s))) refl in
    let y₄ : x₃ ++ (e₁ ++ e₂ ++ e₃ ++ e₄) ≡ take 518 s = parts_join s x₃ (e₁ ++ e₂ ++ e₃ ++ e₄) 446 72 518 y₃ w₄ refl in
    parts_join s (x₃ ++ (e₁ ++ e₂ ++ e₃ ++ e₄)) (bytes_at s 518 2) 518 2 header_length y₄ (there 518 2 (omega arith)) refl ∙ take_all header_length s (omega (arith, n))

-- each tag is possible
pub tagged-at : (b : List ℕ) (i n k : ℕ) → tagged b i n ≡ true → k < n → possible (tag_at b (i + k)) ≡ true
unfolding tagged
tagged-at b i zero k t h = absurd (omega arith)
tagged-at b i (suc n) zero t h = ap (λ (j : ℕ). possible (tag_at b j)) (add-zero i) ∙ (both_true (possible (tag_at b i)) (tagged b (suc i) n) t).0
tagged-at b i (suc n) (suc k) t h =
    let z : i + suc k ≡ suc i + k = omega arith in
    ap (λ (j : ℕ). possible (tag_at b j)) z ∙ tagged-at b (suc i) n k (both_true (possible (tag_at b i)) (tagged b (suc i) n) t).1 (omega arith)

module _ (b : List ℕ) (k : Bytes b) (f : first-fail (block_checks b) ≡ None) (c : Clean b) where
  long : length b ≡ block_length
  long = eqb-true _ _ (none-fails (block_checks b) f).0

  tags : tagged b 0 most ≡ true
  tags = (none-fails (block_checks b) f).1.1.0

  slot-there : (n : ℕ) → n < most → slot_part (slot_of (tag_at b n) (slot_at b n)) ≡ take slot_length (drop (slot_length * n) (drop slots_offset b))
  slot-there n h =
      let l : slots_offset + slot_length * n + slot_length ≤ length b = omega (arith, long) in
      slot-forth (tag_at b n) (slot_at b n) (part_bytes b (slots_offset + slot_length * n) slot_length k) (part-long b (slots_offset + slot_length * n) slot_length l) (c n h)
      ∙ part-is b (slots_offset + slot_length * n) slot_length ∙ ap (take slot_length) (sym (drop-drop (slot_length * n) slots_offset b))

  slots-forth : (n : ℕ) → n ≤ most → slots_part (slots_in b n) ≡ take (slot_length * n) (drop slots_offset b)
  unfolding slots_in slots_part
  slots-forth zero h = refl
  slots-forth (suc n) h =
      let s = slot_of (tag_at b n) (slot_at b n) in
      let z : slot_length * n + slot_length ≡ slot_length * suc n = omega arith in
      slots-snoc (slots_in b n) s ∙ parts_join (drop slots_offset b) (slots_part (slots_in b n)) (slot_part s) (slot_length * n) slot_length (slot_length * suc n) (slots-forth n (omega arith)) (slot-there n (omega arith)) z

  tags-forth : (n : ℕ) → n ≤ most → tags_part (slots_in b n) ≡ take n (drop tags_offset b)
  unfolding slots_in tags_part
  tags-forth zero h = refl
  tags-forth (suc n) h =
      let s = slot_of (tag_at b n) (slot_at b n) in
      let t : possible (tag_at b n) ≡ true = ap (λ (j : ℕ). possible (tag_at b j)) (sym (zero-add n)) ∙ tagged-at b 0 most n tags (omega arith) in
      let u : n < length (drop tags_offset b) = omega (arith, length-drop tags_offset b, long) in
      tags-snoc (slots_in b n) s
      ∙ ap (λ (x : List ℕ). x ++ (tag_of s ∷ [])) (tags-forth n (omega arith))
      ∙ ap (λ (v : ℕ). take n (drop tags_offset b) ++ (v ∷ [])) (tag-forth (tag_at b n) (slot_at b n) t ∙ sym (get_or-drop tags_offset b n 0))
      ∙ sym (take-suc (drop tags_offset b) n 0 u)

  -- a block is that of the table in it
  pub block-forth : block_bytes (table_in b) ≡ b
  unfolding block_bytes table_in
  block-forth =
      let t = table_in b in
      let x₁ : List ℕ = front_part (number little (bytes_at b 0 4)) (number little (bytes_at b 4 4)) (number little (bytes_at b 8 4)) (number little (bytes_at b 12 4)) (number little (bytes_at b 16 2)) (get_or b 18 0) (get_or b 19 0) in
      let h : List ℕ = header_part (header_in (part b 20 header_length)) in
      let x₂ : List ℕ = x₁ ++ h in
      let e₁ : x₁ ≡ bytes_at b 0 20 = cc (four-forth b k 0, four-forth b k 4, four-forth b k 8, four-forth b k 12, two-forth b k 16) in
      let y₁ : x₁ ≡ take 20 b = e₁ ∙ bytes_at-part b 0 20 (omega (arith, long)) in
      let e₂ : h ≡ take header_length (drop 20 b) = header-forth (part b 20 header_length) (part_bytes b 20 header_length k) (part-long b 20 header_length (omega (arith, long))) ∙ part-is b 20 header_length in
      let y₂ : x₂ ≡ take slots_offset b = parts_join b x₁ h 20 header_length slots_offset y₁ e₂ refl in
      let x₃ : List ℕ = x₂ ++ slots_part (slots_in b most) in
      let y₃ : x₃ ≡ take tags_offset b = parts_join b x₂ (slots_part (slots_in b most)) slots_offset (slot_length * most) tags_offset y₂ (slots-forth most (omega arith)) refl in
      parts_join b x₃ (tags_part (slots_in b most)) tags_offset most block_length y₃ (tags-forth most (omega arith)) refl ∙ take_all block_length b (omega (arith, long))
