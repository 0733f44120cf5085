-- Lengths and parts of a block. Assumes nothing.
use Rattle.record_chs.specs.declared.CHS.{CHS}
use Rattle.std.specs.Prelude.{Option, Some, None}
use mathlib.Core.Path.{◌≡◌, refl, sym, ap, ◌∙◌}
use mathlib.Core.List.{List, [], ◌∷◌, ◌++◌, append_assoc, append-nil}
use Prim.Native.Nat.{ℕ, suc, ◌+◌}
use lib.ListN.{length, length-append}
use lib.Seq.{take_at, drop_at}
use Rattle.base.specs.Bytes.{bytes_of, little}
use Rattle.table.specs.declared.LogicalPartition.{LogicalPartition}
use Rattle.record_ebr.specs.Ebr.{mark_length}
use Rattle.block.specs.Fits.{KeptLong}
use Rattle.block.specs.Block.{part, chs_part, entry_part, sectors_part, last_part, slot_front, kept_part, slot_part, slots_part, tag_of, tags_part, slot_length}

pub length-sectors : (m : Option ℕ) → length (sectors_part m) ≡ 4
length-sectors None = refl
length-sectors (Some v) = refl

pub length_last : (m : Option CHS) → length (last_part m) ≡ 4
length_last None = refl
length_last (Some c) = refl

pub length_front : (l : LogicalPartition) → length (slot_front l) ≡ 34
length_front l =
    let x₂ : List ℕ = entry_part l.partition ++ bytes_of little 4 l.absolute_ebr_lba.0 in
    let x₃ : List ℕ = x₂ ++ sectors_part l.ebr_sectors in
    let x₄ : List ℕ = x₃ ++ chs_part l.ebr_first_chs in
    let n₃ : length x₃ ≡ 26 = length-append x₂ (sectors_part l.ebr_sectors) ∙ rw (length-sectors l.ebr_sectors) in
    let n₄ : length x₄ ≡ 30 = length-append x₃ (chs_part l.ebr_first_chs) ∙ rw n₃ in
    length-append x₄ (last_part l.ebr_last_chs) ∙ rw (n₄, length_last l.ebr_last_chs)

pub length-slot : (l : LogicalPartition) → KeptLong l.kept → length (slot_part l) ≡ slot_length
unfolding slot_part
length-slot l n =
    let k : length (kept_part l.kept) ≡ 446 + mark_length = length-append l.kept.bootstrap_code l.kept.mark ∙ rw (n.code, n.mark) in
    length-append (slot_front l) (kept_part l.kept) ∙ rw (length_front l, k)

-- one slot more
pub slots-snoc : (xs : List LogicalPartition) (l : LogicalPartition) → slots_part (xs ++ (l ∷ [])) ≡ slots_part xs ++ slot_part l
unfolding slots_part
slots-snoc [] l = append-nil (slot_part l)
slots-snoc (x ∷ xs) l = ap (λ (r : List ℕ). slot_part x ++ r) (slots-snoc xs l) ∙ sym (append_assoc (slot_part x) (slots_part xs) (slot_part l))

pub tags-snoc : (xs : List LogicalPartition) (l : LogicalPartition) → tags_part (xs ++ (l ∷ [])) ≡ tags_part xs ++ (tag_of l ∷ [])
unfolding tags_part
tags-snoc [] l = refl
tags-snoc (x ∷ xs) l = ap (λ (r : List ℕ). tag_of x ∷ r) (tags-snoc xs l)

-- a list of partitions has a tag for each
pub length-tags : (ls : List LogicalPartition) → length (tags_part ls) ≡ length ls
unfolding tags_part
length-tags [] = refl
length-tags (l ∷ ls) = ap suc (length-tags ls)

-- what stands behind at bytes is the part there
pub part_at : (b p xs q : List ℕ) (at n : ℕ) → b ≡ p ++ (xs ++ q) → length p ≡ at → length xs ≡ n → part b at n ≡ xs
unfolding part
part_at b p xs q at n e a l = rw (e, drop_at p (xs ++ q) at a, take_at xs q n l)
