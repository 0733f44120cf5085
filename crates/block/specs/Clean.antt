-- Blocks whose absent values are zero. Assumes nothing.
use Rattle.std.specs.Prelude.{ℕ, ◌<◌, ◌%◌, List, ◌≡◌, replicate}
use Rattle.base.specs.Bytes.{bytes_at}
use Rattle.table.specs.Table.{most}
use Rattle.block.specs.Block.{slot_at, tag_at}

pub record SlotClean (tag : ℕ) (s : List ℕ) : Type 0 where
  pub sectors : tag % 2 ≡ 0 → bytes_at s 22 4 ≡ replicate 4 0
  pub last : tag < 2 → bytes_at s 30 4 ≡ replicate 4 0

abbrev pub Clean : List ℕ → Type 0
Clean b = (i : ℕ) → i < most → SlotClean (tag_at b i) (slot_at b i)
