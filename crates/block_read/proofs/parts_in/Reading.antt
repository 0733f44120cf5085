-- The turns of reading the slots of a block. Assumes nothing.
use mathlib.Core.Path.{◌≡◌, refl, sym, ap, ◌∙◌}
use mathlib.Core.List.{List}
use Prim.Native.Nat.{ℕ, ◌+◌, ◌<◌}
use native.Mathlib.Omega.{arith}
use native.Mathlib.Numerals.{add-one}
use lib.ListN.{length, take, set}
use lib.Seq.{take-suc-set, take_all}
use Rattle.table.specs.declared.LogicalPartition.{LogicalPartition}
use Rattle.table.specs.Table.{most}
use Rattle.block.specs.Block.{slot_of, slot_at, tag_at, slots_in}

-- a slot more
pub slots-none : (b : List ℕ) (ls : List LogicalPartition) → take 0 ls ≡ slots_in b 0
unfolding slots_in
slots-none b ls = refl

pub slots-more : (b : List ℕ) (ls : List LogicalPartition) (l : LogicalPartition) (i : ℕ) → i < length ls → take i ls ≡ slots_in b i
    → l ≡ slot_of (tag_at b i) (slot_at b i) → take (i + 1) (set ls i l) ≡ slots_in b (i + 1)
unfolding slots_in
slots-more b ls l i h e q =
    ap (λ (k : ℕ). take k (set ls i l)) (add-one i) ∙ take-suc-set ls i l h
    ∙ rw (e, q, add-one i) refl

pub slots-all : (b : List ℕ) (ls : List LogicalPartition) (i : ℕ) → length ls ≡ most → i ≡ most → take i ls ≡ slots_in b i → ls ≡ slots_in b most
slots-all b ls i l z e = sym (take_all i ls (omega arith)) ∙ e ∙ ap (slots_in b) z
