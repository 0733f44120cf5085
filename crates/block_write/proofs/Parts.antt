-- The parts of a block, written one behind the other. Assumes nothing.
use mathlib.Core.Path.{◌≡◌, refl, sym, ◌∙◌}
use mathlib.Core.List.{List, ◌++◌}
use Prim.Native.Nat.{ℕ, ◌*◌}
use native.Mathlib.Omega.{arith}
use lib.ListN.{length, length-append}
use Rattle.base.specs.Put.{put}
use Rattle.base.proofs.Put.{behind, put_whole}
use Rattle.table.specs.declared.MBR.{MBR}
use Rattle.table.specs.Table.{most}
use Rattle.block.specs.Block.{header_part, front_part, slots_part, tags_part, slots_put, block_bytes, header_length, slot_length, slots_offset, tags_offset, block_length}

pub all-written : (d d₁ d₂ d₃ : List ℕ) (t : MBR) → length d ≡ block_length
    → d₁ ≡ put d 0 (front_part t.sector_size t.disk_size t.align t.count t.cylinders t.heads t.sectors)
    → (d₂ ≡ put d₁ 20 (header_part t.header)) × (length (header_part t.header) ≡ header_length)
    → (d₃ ≡ slots_put d₂ t.logical_partitions) × (length (slots_part t.logical_partitions) ≡ slot_length * most) × (length (tags_part t.logical_partitions) ≡ most)
    → d₃ ≡ block_bytes t
unfolding block_bytes slots_put
all-written d d₁ d₂ d₃ t k e₁ e₂ e₃ =
    let x₁ : List ℕ = front_part t.sector_size t.disk_size t.align t.count t.cylinders t.heads t.sectors in
    let x₂ : List ℕ = x₁ ++ header_part t.header in
    let x₃ : List ℕ = x₂ ++ slots_part t.logical_partitions in
    let n₂ : length x₂ ≡ slots_offset = length-append x₁ (header_part t.header) ∙ rw e₂.1 in
    let x₄ : List ℕ = x₃ ++ tags_part t.logical_partitions in
    let n₃ : length x₃ ≡ tags_offset = length-append x₂ (slots_part t.logical_partitions) ∙ rw (n₂, e₃.1) in
    let n₄ : length x₄ ≡ block_length = length-append x₃ (tags_part t.logical_partitions) ∙ rw (n₃, e₃.2) in
    let f₂ : d₂ ≡ put d 0 x₂ = behind d d₁ d₂ 0 20 x₁ _ refl (omega arith) e₁ e₂.0 in
    let f₃ : put d₂ slots_offset (slots_part t.logical_partitions) ≡ put d 0 x₃ = behind d d₂ _ 0 slots_offset x₂ _ n₂ (omega arith) f₂ refl in
    behind d _ d₃ 0 tags_offset x₃ _ n₃ (omega arith) f₃ e₃.0 ∙ put_whole d x₄ (k ∙ sym n₄)
