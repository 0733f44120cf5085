-- The parts of a block, each from what it is made of. Assumes nothing.
use mathlib.Core.Path.{◌≡◌, refl, sym, ap, ◌∙◌}
use mathlib.Core.List.{List, [], ◌∷◌, ◌++◌}
use Prim.Native.Nat.{ℕ, ◌+◌, ◌*◌, ◌<◌}
use native.Mathlib.Omega.{arith}
use native.Mathlib.Numerals.{add-one}
use lib.ListN.{length, take, get_or, length-append}
use lib.Seq.{take-suc, take_all, length-take-le}
use Rattle.base.specs.Bytes.{bytes_of, little}
use Rattle.base.specs.Put.{put}
use Rattle.base.proofs.Put.{behind}
use Rattle.record_entry.specs.declared.MBRPartitionEntry.{MBRPartitionEntry}
use Rattle.record_mbr.specs.declared.MBRHeader.{MBRHeader}
use Rattle.table.specs.declared.LogicalPartition.{LogicalPartition}
use Rattle.table.specs.Table.{no_logical, most}
use Rattle.block.specs.Block.{entry_part, slot_part, code_part, entries_part, header_part, front_part, slots_part, tags_part, slot_put, slots_put, header_length, slot_length, block_length}
use Rattle.block.proofs.Laws.{slots-snoc, length-tags}
use Rattle.block.proofs.Slots.{slots-start, slots-turn}

-- the loop over the slots: its start, a turn, and its end
pub all_start : (d : List ℕ) (ls : List LogicalPartition) → (length (slots_part (take 0 ls)) ≡ slot_length * 0) × (d ≡ slots_put d (take 0 ls))
unfolding slots_part
all_start d ls = (refl, sym (slots-start d))

pub all-turn : (d₀ d e : List ℕ) (ls : List LogicalPartition) (i : ℕ) → length ls ≡ most → i < most → length d₀ ≡ block_length
    → length (slots_part (take i ls)) ≡ slot_length * i → d ≡ slots_put d₀ (take i ls)
    → (e ≡ slot_put d i (get_or ls i no_logical)) × (length (slot_part (get_or ls i no_logical)) ≡ slot_length)
    → (length (slots_part (take (i + 1) ls)) ≡ slot_length * (i + 1)) × (e ≡ slots_put d₀ (take (i + 1) ls))
all-turn d₀ d e ls i k h n m p q =
    let l : LogicalPartition = get_or ls i no_logical in
    let z : length (take i ls) ≡ i = length-take-le i ls (omega arith) in
    let t : take (i + 1) ls ≡ take i ls ++ (l ∷ []) = ap (λ (j : ℕ). take j ls) (add-one i) ∙ take-suc ls i no_logical (omega arith) in (
      ap (λ (x : List LogicalPartition). length (slots_part x)) t ∙ ap length (slots-snoc (take i ls) l) ∙ length-append (slots_part (take i ls)) (slot_part l) ∙ omega (arith, q.1),
      q.0 ∙ ap (λ (x : List ℕ). slot_put x i l) p ∙ ap (λ (j : ℕ). slot_put (slots_put d₀ (take i ls)) j l) (sym z)
          ∙ slots-turn d₀ (take i ls) l n (omega arith) (omega arith) q.1
          ∙ ap (slots_put d₀) (sym t),
    )

pub all-put : (d₀ d : List ℕ) (ls : List LogicalPartition) (i : ℕ) → length ls ≡ most → i ≡ most
    → length (slots_part (take i ls)) ≡ slot_length * i → d ≡ slots_put d₀ (take i ls) → (d ≡ slots_put d₀ ls) × (length (slots_part ls) ≡ slot_length * most) × (length (tags_part ls) ≡ most)
all-put d₀ d ls i k z m p =
    let a : take i ls ≡ ls = take_all i ls (omega arith) in
    (p ∙ ap (slots_put d₀) a, ap (λ (x : List LogicalPartition). length (slots_part x)) (sym a) ∙ omega arith, length-tags ls ∙ k)

pub code-written : (d d₁ d₂ d₃ : List ℕ) (h : MBRHeader) → length h.bootstrap_code ≡ 440 → length h.disk_signature ≡ 4 → length h.copy_protected ≡ 2
    → length d ≡ block_length → d₁ ≡ put d 20 h.bootstrap_code → d₂ ≡ put d₁ 460 h.disk_signature → d₃ ≡ put d₂ 464 h.copy_protected
    → (d₃ ≡ put d 20 (code_part h)) × (length (code_part h) ≡ 446)
code-written d d₁ d₂ d₃ h a b c k e₁ e₂ e₃ =
    let x₁ : List ℕ = h.bootstrap_code in
    let x₂ : List ℕ = x₁ ++ h.disk_signature in
    let n₂ : length x₂ ≡ 444 = simp (length-append, a, b) in
    let f₂ : d₂ ≡ put d 20 x₂ = behind d d₁ d₂ 20 440 x₁ h.disk_signature a (omega arith) e₁ e₂ in
    (behind d d₂ d₃ 20 444 x₂ h.copy_protected n₂ (omega arith) f₂ e₃, simp (length-append, a, b, c))

pub entries-written : (d d₁ d₂ d₃ d₄ : List ℕ) (a b c e : MBRPartitionEntry) → length d ≡ block_length
    → d₁ ≡ put d 466 (entry_part a) → d₂ ≡ put d₁ 484 (entry_part b) → d₃ ≡ put d₂ 502 (entry_part c) → d₄ ≡ put d₃ 520 (entry_part e)
    → d₄ ≡ put d 466 (entries_part a b c e)
entries-written d d₁ d₂ d₃ d₄ a b c e k e₁ e₂ e₃ e₄ =
    let x₁ : List ℕ = entry_part a in
    let x₂ : List ℕ = x₁ ++ entry_part b in
    let x₃ : List ℕ = x₂ ++ entry_part c in
    let f₂ : d₂ ≡ put d 466 x₂ = behind d d₁ d₂ 466 18 x₁ (entry_part b) refl (omega arith) e₁ e₂ in
    let f₃ : d₃ ≡ put d 466 x₃ = behind d d₂ d₃ 466 36 x₂ (entry_part c) refl (omega arith) f₂ e₃ in
    behind d d₃ d₄ 466 54 x₃ (entry_part e) refl (omega arith) f₃ e₄

pub header-written : (d d₁ d₂ d₃ : List ℕ) (h : MBRHeader) → length d ≡ block_length
    → (d₁ ≡ put d 20 (code_part h)) × (length (code_part h) ≡ 446)
    → d₂ ≡ put d₁ 466 (entries_part h.partition_1 h.partition_2 h.partition_3 h.partition_4)
    → (d₃ ≡ put d₂ 538 h.boot_signature) × (length h.boot_signature ≡ 2) → (d₃ ≡ put d 20 (header_part h)) × (length (header_part h) ≡ header_length)
unfolding header_part
header-written d d₁ d₂ d₃ h k e₁ e₂ e₃ =
    let y : List ℕ = entries_part h.partition_1 h.partition_2 h.partition_3 h.partition_4 in
    let x₂ : List ℕ = code_part h ++ y in
    let n₂ : length x₂ ≡ 518 = length-append (code_part h) y ∙ rw e₁.1 in
    let f₂ : d₂ ≡ put d 20 x₂ = behind d d₁ d₂ 20 446 (code_part h) y e₁.1 (omega arith) e₁.0 e₂ in
    (behind d d₂ d₃ 20 518 x₂ h.boot_signature n₂ (omega arith) f₂ e₃.0, length-append x₂ h.boot_signature ∙ rw (n₂, e₃.1))

pub numbers-written : (d d₁ d₂ d₃ d₄ d₅ d₆ d₇ : List ℕ) (size disk align count cylinders heads sectors : ℕ) → length d ≡ block_length
    → d₁ ≡ put d 0 (bytes_of little 4 size) → d₂ ≡ put d₁ 4 (bytes_of little 4 disk) → d₃ ≡ put d₂ 8 (bytes_of little 4 align)
    → d₄ ≡ put d₃ 12 (bytes_of little 4 count) → d₅ ≡ put d₄ 16 (bytes_of little 2 cylinders) → d₆ ≡ put d₅ 18 (heads ∷ [])
    → d₇ ≡ put d₆ 19 (sectors ∷ []) → d₇ ≡ put d 0 (front_part size disk align count cylinders heads sectors)
numbers-written d d₁ d₂ d₃ d₄ d₅ d₆ d₇ size disk align count cylinders heads sectors k e₁ e₂ e₃ e₄ e₅ e₆ e₇ =
    let x₁ : List ℕ = bytes_of little 4 size in
    let x₂ : List ℕ = x₁ ++ bytes_of little 4 disk in
    let x₃ : List ℕ = x₂ ++ bytes_of little 4 align in
    let x₄ : List ℕ = x₃ ++ bytes_of little 4 count in
    let x₅ : List ℕ = x₄ ++ bytes_of little 2 cylinders in
    let x₆ : List ℕ = x₅ ++ (heads ∷ []) in
    let f₂ : d₂ ≡ put d 0 x₂ = behind d d₁ d₂ 0 4 x₁ _ refl (omega arith) e₁ e₂ in
    let f₃ : d₃ ≡ put d 0 x₃ = behind d d₂ d₃ 0 8 x₂ _ refl (omega arith) f₂ e₃ in
    let f₄ : d₄ ≡ put d 0 x₄ = behind d d₃ d₄ 0 12 x₃ _ refl (omega arith) f₃ e₄ in
    let f₅ : d₅ ≡ put d 0 x₅ = behind d d₄ d₅ 0 16 x₄ _ refl (omega arith) f₄ e₅ in
    let f₆ : d₆ ≡ put d 0 x₆ = behind d d₅ d₆ 0 18 x₅ _ refl (omega arith) f₅ e₆ in
    behind d d₆ d₇ 0 19 x₆ _ refl (omega arith) f₆ e₇
