-- Bytes moved down, and the slots that this leaves. Assumes nothing.
use mathlib.Core.Path.{◌≡◌, ap, ◌∙◌}
use mathlib.Core.List.{List}
use Prim.Native.Nat.{ℕ, ◌+◌, ◌-◌, ◌*◌, ◌≤◌, ◌<◌}
use native.Mathlib.Omega.{arith}
use lib.ListN.{length, take, drop}
use lib.Seq.{paste}
use Rattle.base.specs.Bytes.{bytes_of, little}
use Rattle.base.specs.Put.{put}
use Rattle.table.specs.Table.{most}
use Rattle.base.proofs.Put.{length-put}
use Rattle.block.specs.Block.{part, slot_length, slots_offset, tags_offset, block_length, slot_start, tag_start}
use Rattle.block_slot.specs.Changed.{with_count, without_slot}
use Rattle.block.proofs.Forth.{part-long}
use Rattle.block.proofs.Over.{put-behind, part-alike}

-- a copy within a list is a part of it put elsewhere
pub pasted : (d e : List ℕ) (to by n : ℕ) → to + by + n ≤ length d → e ≡ paste d to (drop (to + by) d) (to + by + n - (to + by)) → e ≡ put d to (part d (to + by) n)
unfolding put part
pasted d e to by n h p =
    let m : to + by + n - (to + by) ≡ n = omega arith in
    let l : length (take n (drop (to + by) d)) ≡ n = part-long d (to + by) n h in
    p ∙ rw (m, l)

-- the count, then the slots behind number k, then their tags
dropped : (d e f g : List ℕ) (n k : ℕ) → length d ≡ block_length → k < n → n ≤ most → e ≡ put d 12 (bytes_of little 4 (n - 1))
    → f ≡ put e (slots_offset + slot_length * k) (part e (slots_offset + slot_length * k + slot_length) (slot_length * (n - 1 - k))) → g ≡ put f (tags_offset + k) (part f (tags_offset + k + 1) (n - 1 - k))
    → g ≡ without_slot d n k
unfolding without_slot
dropped d e f g n k l h m p q u =
    let c : List ℕ = with_count d (n - 1) in
    let r : 12 + length (bytes_of little 4 (n - 1)) ≤ length d = omega arith in
    let s : length c ≡ length d = length-put d 12 (bytes_of little 4 (n - 1)) r in
    -- what stands behind the count is as before
    let far : (o a : ℕ) → 16 ≤ o → o + a ≤ block_length → part c o a ≡ part d o a =
    λ o a x y. part-alike c d o a (omega arith) (omega arith) (put-behind d 12 (bytes_of little 4 (n - 1)) r o a (omega arith)) in
    let xs : List ℕ = part d (slots_offset + slot_length * (k + 1)) (slot_length * (n - 1 - k)) in
    let w : length xs ≡ slot_length * (n - 1 - k) = part-long d (slots_offset + slot_length * (k + 1)) (slot_length * (n - 1 - k)) (omega arith) in
    let t : f ≡ put c (slots_offset + slot_length * k) xs =
    q ∙ ap (λ (x : List ℕ). put x (slots_offset + slot_length * k) (part x (slots_offset + slot_length * k + slot_length) (slot_length * (n - 1 - k)))) p
    ∙ ap (λ (o : ℕ). put c (slots_offset + slot_length * k) (part c o (slot_length * (n - 1 - k)))) z₁
    ∙ ap (put c (slots_offset + slot_length * k)) (far (slots_offset + slot_length * (k + 1)) (slot_length * (n - 1 - k)) (omega arith) (omega arith)) in
    let a : List ℕ = put c (slots_offset + slot_length * k) xs in
    let b : length a ≡ length c = length-put c (slots_offset + slot_length * k) xs (omega arith) in
    let v : part a (tags_offset + (k + 1)) (n - 1 - k) ≡ part d (tags_offset + (k + 1)) (n - 1 - k) =
    part-alike a c (tags_offset + (k + 1)) (n - 1 - k) (omega arith) (omega arith) (put-behind c (slots_offset + slot_length * k) xs (omega arith) (tags_offset + (k + 1)) (n - 1 - k) (omega arith))
    ∙ far (tags_offset + (k + 1)) (n - 1 - k) (omega arith) (omega arith) in
    u ∙ ap (λ (x : List ℕ). put x (tags_offset + k) (part x (tags_offset + k + 1) (n - 1 - k))) t
    ∙ ap (λ (o : ℕ). put a (tags_offset + k) (part a o (n - 1 - k))) z₂
    ∙ ap (put a (tags_offset + k)) v
  where
    z₁ : slots_offset + slot_length * k + slot_length ≡ slots_offset + slot_length * (k + 1)
    z₁ = omega arith

    z₂ : tags_offset + k + 1 ≡ tags_offset + (k + 1)
    z₂ = omega arith

-- from their places
pub dropped-at : (d e f g : List ℕ) (n k o p : ℕ) → length d ≡ block_length → k < n → n ≤ most → o ≡ slot_start k → p ≡ tag_start k → e ≡ put d 12 (bytes_of little 4 (n - 1))
    → f ≡ put e o (part e (o + slot_length) (slot_length * (n - 1 - k))) → g ≡ put f p (part f (p + 1) (n - 1 - k)) → g ≡ without_slot d n k
dropped-at d e f g n k o p l h m x y u v w =
    dropped d e f g n k l h m u (v ∙ ap (λ (o : ℕ). put e o (part e (o + slot_length) (slot_length * (n - 1 - k)))) x) (w ∙ ap (λ (p : ℕ). put f p (part f (p + 1) (n - 1 - k))) y)
