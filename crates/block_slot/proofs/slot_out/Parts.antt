-- The parts of a slot, written one behind the other. Assumes nothing.
use mathlib.Core.Path.{◌≡◌, refl, ap, ◌∙◌}
use mathlib.Core.List.{List, [], ◌∷◌, ◌++◌, append_assoc}
use Prim.Native.Nat.{ℕ, ◌+◌, ◌≤◌}
use native.Mathlib.Omega.{arith}
use lib.ListN.{length, length-append}
use Rattle.base.specs.Bytes.{bytes_of, little}
use Rattle.base.specs.Put.{put}
use Rattle.base.proofs.Put.{behind}
use Rattle.record_chs.specs.declared.CHS.{CHS}
use Rattle.record_entry.specs.declared.MBRPartitionEntry.{MBRPartitionEntry}
use Rattle.table.specs.declared.LogicalPartition.{LogicalPartition}
use Rattle.block.specs.Block.{chs_part, entry_part, sectors_part, last_part, slot_front, slot_part, entry_length, slot_code, slot_mark, slot_length}
use Rattle.block.specs.Fits.{KeptLong}
use Rattle.block.proofs.Laws.{length-sectors, length_front, length-slot}

pub chs-written : (d d₁ d₂ d₃ : List ℕ) (at : ℕ) (c : CHS) → at + 4 ≤ length d
    → d₁ ≡ put d at (bytes_of little 2 c.cylinder) → d₂ ≡ put d₁ (at + 2) (c.head ∷ []) → d₃ ≡ put d₂ (at + 3) (c.sector ∷ [])
    → d₃ ≡ put d at (chs_part c)
chs-written d d₁ d₂ d₃ at c h e₁ e₂ e₃ =
    let x₁ : List ℕ = bytes_of little 2 c.cylinder in
    let x₂ : List ℕ = x₁ ++ (c.head ∷ []) in
    let f₂ : d₂ ≡ put d at x₂ = behind d d₁ d₂ at 2 x₁ _ refl (omega arith) e₁ e₂ in
    behind d d₂ d₃ at 3 x₂ _ refl (omega arith) f₂ e₃

pub entry-written : (d d₁ d₂ d₃ d₄ d₅ d₆ : List ℕ) (at : ℕ) (e : MBRPartitionEntry) → at + entry_length ≤ length d
    → d₁ ≡ put d at (e.boot ∷ []) → d₂ ≡ put d₁ (at + 1) (chs_part e.first_chs) → d₃ ≡ put d₂ (at + 5) (e.sys ∷ [])
    → d₄ ≡ put d₃ (at + 6) (chs_part e.last_chs) → d₅ ≡ put d₄ (at + 10) (bytes_of little 4 e.starting_lba)
    → d₆ ≡ put d₅ (at + 14) (bytes_of little 4 e.sectors) → d₆ ≡ put d at (entry_part e)
entry-written d d₁ d₂ d₃ d₄ d₅ d₆ at e h e₁ e₂ e₃ e₄ e₅ e₆ =
    let x₁ : List ℕ = e.boot ∷ [] in
    let x₂ : List ℕ = x₁ ++ chs_part e.first_chs in
    let x₃ : List ℕ = x₂ ++ (e.sys ∷ []) in
    let x₄ : List ℕ = x₃ ++ chs_part e.last_chs in
    let x₅ : List ℕ = x₄ ++ bytes_of little 4 e.starting_lba in
    let f₂ : d₂ ≡ put d at x₂ = behind d d₁ d₂ at 1 x₁ _ refl (omega arith) e₁ e₂ in
    let f₃ : d₃ ≡ put d at x₃ = behind d d₂ d₃ at 5 x₂ _ refl (omega arith) f₂ e₃ in
    let f₄ : d₄ ≡ put d at x₄ = behind d d₃ d₄ at 6 x₃ _ refl (omega arith) f₃ e₄ in
    let f₅ : d₅ ≡ put d at x₅ = behind d d₄ d₅ at 10 x₄ _ refl (omega arith) f₄ e₅ in
    behind d d₅ d₆ at 14 x₅ _ refl (omega arith) f₅ e₆

pub front-written : (d d₁ d₂ d₃ d₄ d₅ : List ℕ) (at : ℕ) (l : LogicalPartition) → at + 34 ≤ length d
    → d₁ ≡ put d at (entry_part l.partition) → d₂ ≡ put d₁ (at + 18) (bytes_of little 4 l.absolute_ebr_lba.0)
    → d₃ ≡ put d₂ (at + 22) (sectors_part l.ebr_sectors) → d₄ ≡ put d₃ (at + 26) (chs_part l.ebr_first_chs)
    → d₅ ≡ put d₄ (at + 30) (last_part l.ebr_last_chs) → d₅ ≡ put d at (slot_front l)
front-written d d₁ d₂ d₃ d₄ d₅ at l h e₁ e₂ e₃ e₄ e₅ =
    let x₁ : List ℕ = entry_part l.partition in
    let x₂ : List ℕ = x₁ ++ bytes_of little 4 l.absolute_ebr_lba.0 in
    let x₃ : List ℕ = x₂ ++ sectors_part l.ebr_sectors in
    let x₄ : List ℕ = x₃ ++ chs_part l.ebr_first_chs in
    let n₃ : length x₃ ≡ 26 = length-append x₂ (sectors_part l.ebr_sectors) ∙ rw (length-sectors l.ebr_sectors) in
    let n₄ : length x₄ ≡ 30 = length-append x₃ (chs_part l.ebr_first_chs) ∙ rw n₃ in
    let f₂ : d₂ ≡ put d at x₂ = behind d d₁ d₂ at 18 x₁ _ refl (omega arith) e₁ e₂ in
    let f₃ : d₃ ≡ put d at x₃ = behind d d₂ d₃ at 22 x₂ _ refl (omega arith) f₂ e₃ in
    let f₄ : d₄ ≡ put d at x₄ = behind d d₃ d₄ at 26 x₃ _ n₃ (omega arith) f₃ e₄ in
    behind d d₄ d₅ at 30 x₄ _ n₄ (omega arith) f₄ e₅

pub slot-written : (d d₁ d₂ d₃ : List ℕ) (at : ℕ) (l : LogicalPartition) → KeptLong l.kept → at + slot_length ≤ length d
    → d₁ ≡ put d at (slot_front l) → d₂ ≡ put d₁ (at + slot_code) l.kept.bootstrap_code → d₃ ≡ put d₂ (at + slot_mark) l.kept.mark
    → (d₃ ≡ put d at (slot_part l)) × (length (slot_part l) ≡ slot_length)
unfolding slot_part
slot-written d d₁ d₂ d₃ at l n h e₁ e₂ e₃ =
    let f : List ℕ = slot_front l in
    let c : List ℕ = l.kept.bootstrap_code in
    let w : length (f ++ c) ≡ slot_mark = length-append f c ∙ rw (length_front l, n.code) in
    let f₂ : d₂ ≡ put d at (f ++ c) = behind d d₁ d₂ at slot_code f c (length_front l) (omega arith) e₁ e₂ in
    (behind d d₂ d₃ at slot_mark (f ++ c) l.kept.mark w (omega arith) f₂ e₃ ∙ ap (put d at) (append_assoc f c l.kept.mark), length-slot l n)
