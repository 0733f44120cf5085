-- Logical partitions put into the slots of a block one by one. Assumes nothing.
use mathlib.Core.Path.{◌≡◌, sym, ap, ◌∙◌}
use mathlib.Core.List.{List, [], ◌∷◌, ◌++◌}
use Prim.Native.Nat.{ℕ, ◌+◌, ◌*◌, ◌≤◌, ◌<◌}
use native.Mathlib.Omega.{arith}
use lib.ListN.{length, length-append}
use Rattle.base.specs.Put.{put}
use Rattle.base.proofs.Put.{put-put, length-put, put-none}
use Rattle.table.specs.declared.LogicalPartition.{LogicalPartition}
use Rattle.table.specs.Table.{most}
use Rattle.block.specs.Block.{slot_part, slots_part, tag_of, tags_part, slot_put, slots_put, slot_length, slots_offset, tags_offset, block_length}
use Rattle.block.proofs.Laws.{slots-snoc, tags-snoc, length-tags}
use Rattle.block.proofs.Over.{put-swap}

-- none yet
pub slots-start : (d : List ℕ) → slots_put d [] ≡ d
unfolding slots_put slots_part tags_part
slots-start d = put-none (put d slots_offset []) tags_offset ∙ put-none d slots_offset

-- as long as before
pub slots-long : (d : List ℕ) (ls : List LogicalPartition) → length d ≡ block_length → length ls ≤ most → length (slots_part ls) ≡ slot_length * length ls → length (slots_put d ls) ≡ block_length
unfolding slots_put
slots-long d ls n h m =
    let p : length (put d slots_offset (slots_part ls)) ≡ length d = length-put d slots_offset (slots_part ls) (omega arith) in
    length-put (put d slots_offset (slots_part ls)) tags_offset (tags_part ls) (omega (arith, p, length-tags ls)) ∙ p ∙ n

-- one more behind the others
pub slots-turn : (d : List ℕ) (ls : List LogicalPartition) (l : LogicalPartition) → length d ≡ block_length → length ls < most → length (slots_part ls) ≡ slot_length * length ls → length (slot_part l) ≡ slot_length
    → slot_put (slots_put d ls) (length ls) l ≡ slots_put d (ls ++ (l ∷ []))
unfolding slot_put slots_put
slots-turn d ls l n h m k =
    let xs : List ℕ = slots_part ls in
    let ts : List ℕ = tags_part ls in
    let t : length ts ≡ length ls = length-tags ls in
    let a : List ℕ = put d slots_offset xs in
    let p : length a ≡ length d = length-put d slots_offset xs (omega arith) in
    let s : put (put a tags_offset ts) (slots_offset + slot_length * length ls) (slot_part l) ≡ put (put a (slots_offset + slot_length * length ls) (slot_part l)) tags_offset ts =
    sym (put-swap a (slots_offset + slot_length * length ls) tags_offset (slot_part l) ts (omega arith) (omega arith)) in
    let e : put a (slots_offset + slot_length * length ls) (slot_part l) ≡ put d slots_offset (xs ++ slot_part l) =
    ap (λ (q : ℕ). put a (slots_offset + q) (slot_part l)) (sym m) ∙ put-put d slots_offset xs (omega arith) (slot_part l) in
    let b : List ℕ = put d slots_offset (xs ++ slot_part l) in
    let w : length (xs ++ slot_part l) ≡ slot_length * length ls + slot_length = length-append xs (slot_part l) ∙ omega arith in
    let r : length b ≡ length d = length-put d slots_offset (xs ++ slot_part l) (omega (arith, w)) in
    ap (λ (x : List ℕ). put x (tags_offset + length ls) (tag_of l ∷ [])) (s ∙ ap (λ (x : List ℕ). put x tags_offset ts) e)
    ∙ ap (λ (q : ℕ). put (put b tags_offset ts) (tags_offset + q) (tag_of l ∷ [])) (sym t)
    ∙ put-put b tags_offset ts (omega (arith, t, r)) (tag_of l ∷ [])
    ∙ ap (λ (x : List ℕ). put (put d slots_offset x) tags_offset (ts ++ (tag_of l ∷ []))) (sym (slots-snoc ls l))
    ∙ ap (λ (x : List ℕ). put (put d slots_offset (slots_part (ls ++ (l ∷ [])))) tags_offset x) (sym (tags-snoc ls l))
