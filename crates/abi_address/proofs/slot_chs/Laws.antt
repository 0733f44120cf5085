-- From a partition by value to the bytes of its slot. Assumes nothing.
use mathlib.Core.Path.{◌≡◌, refl, sym, ap, ◌∙◌}
use mathlib.Core.List.{List, [], ◌∷◌, ◌++◌}
use Prim.Native.Nat.{ℕ}
use native.Mathlib.Omega.{arith}
use lib.ListN.{length, length-append}
use borrow.Author.Tests.{eqb-true}
use Rattle.base.specs.Put.{put}
use Rattle.base.proofs.Put.{behind, put_whole}
use Rattle.base.specs.Said.{Said, gives, refuses, and_then, failure}
use Rattle.base.specs.Checks.{answer}
use Rattle.base.proofs.Checks.{answer-gives, none-fails}
use Rattle.table.specs.declared.LogicalPartition.{LogicalPartition}
use Rattle.block.specs.Block.{slot_part, slot_of, tag_of, slot_length}
use Rattle.table_address.specs.declared.Geometry.{Geometry}
use Rattle.table_address.specs.Address.{update_chs}
use Rattle.abi_word.specs.Packed.{status}
use Rattle.abi_address.specs.Slot.{alone_tag, slot_checks, slot_says, slot_after, alone_length}

-- what is put into a slot of the right length
pub put-done : (s : Said LogicalPartition) (l : LogicalPartition) (tag : ℕ) (slot mid new : List ℕ) → s ≡ gives l → length slot ≡ alone_length → tag ≡ tag_of l
    → (mid ≡ put slot 0 (slot_part l)) × (length (slot_part l) ≡ slot_length) → new ≡ put mid slot_length (tag ∷ []) → (0 ≡ status (failure s)) × (new ≡ slot_after slot s)
put-done s l tag slot mid new e n t p q =
    let k : length (slot_part l ++ (tag ∷ [])) ≡ length slot = length-append (slot_part l) (tag ∷ []) ∙ omega (arith, p.1) in (
      sym (ap (λ (z : Said LogicalPartition). status (failure z)) e),
      behind slot mid new 0 slot_length (slot_part l) (tag ∷ []) p.1 (omega arith) p.0 q ∙ put_whole slot (slot_part l ++ (tag ∷ [])) (sym k)
          ∙ ap (λ (v : ℕ). slot_part l ++ (v ∷ [])) t
          ∙ sym (ap (slot_after slot) e),
    )

module _ (g : Geometry) (s : List ℕ) where
  -- a slot of another length is refused
  pub slot-long : (l : LogicalPartition) → slot_says g s ≡ gives l → length s ≡ alone_length
  slot-long l e = go (answer (slot_checks s) (slot_of (alone_tag s) s)) refl e
    where
      go : (a : Said LogicalPartition) → answer (slot_checks s) (slot_of (alone_tag s) s) ≡ a → and_then a (update_chs g) ≡ gives l → length s ≡ alone_length
      go (gives m) q f = eqb-true _ _ (none-fails (slot_checks s) (answer-gives (slot_checks s) (slot_of (alone_tag s) s) m q).0).0
      go (refuses k) q f = let w : ◌≡◌ {A = ℕ} 0 1 = cc in absurd (omega arith)
