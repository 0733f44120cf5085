-- Removal of a logical partition from a block where it lies. Assumes nothing.
use mathlib.Core.Path.{◌≡◌, ◌∙◌}
use mathlib.Core.List.{List}
use Prim.Native.Nat.{ℕ, ◌-◌, ◌≤◌, ◌<◌}
use borrow.Author.Tests.{le-leb, lt-leb, lt-ltb, le-ltb}
use Rattle.std.specs.Prelude.{None, Some}
use Rattle.base.specs.Said.{failure, and_then}
use Rattle.base.specs.Checks.{first-fail}
use Rattle.table.specs.declared.MBR.{MBR}
use Rattle.table.specs.Table.{most}
use Rattle.block.specs.Block.{table_in, block_checks}
use Rattle.block_slot.specs.Changed.{without_slot}
use Rattle.block.specs.Blocks.{block_says, bytes_after}
use Rattle.block.proofs.calls.Laws.{passed, fails-done}
use Rattle.block_remove.specs.ByNumberRemoved.{removed_on}

-- removal of a logical partition by its number
module _ (b : List ℕ) (n : ℕ) (h : first-fail (block_checks b) ≡ None) where
  abbrev u : MBR
  u = table_in b

  few : u.count ≤ most
  few = (passed b h).few

  pub too_small : n < 5 → (Some 17 ≡ failure (and_then (block_says b) (removed_on b n))) × (b ≡ bytes_after b (removed_on b n))
  too_small k =
      let f = le-leb _ _ few in
      let e = lt-leb _ _ k in
      fails-done b b (removed_on b n) (removed_on b n) (Some 17) h (rw (f, e)) (rw (f, e))

  pub too_large : 5 ≤ n → u.count ≤ n - 5 → (Some 17 ≡ failure (and_then (block_says b) (removed_on b n))) × (b ≡ bytes_after b (removed_on b n))
  too_large k l =
      let f = le-leb _ _ few in
      let e = le-leb _ _ k in
      let d = le-ltb _ _ l in
      fails-done b b (removed_on b n) (removed_on b n) (Some 17) h (rw (f, e, d)) (rw (f, e, d))

  pub removal-done : (c : List ℕ) → 5 ≤ n → n - 5 < u.count → c ≡ without_slot b u.count (n - 5)
      → (None ≡ failure (and_then (block_says b) (removed_on b n))) × (c ≡ bytes_after b (removed_on b n))
  removal-done c k l g =
      let f = le-leb _ _ few in
      let e = le-leb _ _ k in
      let d = lt-ltb _ _ l in
      fails-done b c (removed_on b n) (removed_on b n) None h (rw (f, e, d)) (g ∙ rw (f, e, d))
