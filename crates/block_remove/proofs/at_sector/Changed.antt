-- Removal by a sector on a block where it lies, refused or done. Assumes nothing.
use mathlib.Core.Path.{◌≡◌, refl, ◌∙◌}
use mathlib.Core.List.{List}
use mathlib.Core.Bool.{Bool, true, false}
use Rattle.std.specs.Prelude.{None, Some}
use Prim.Native.Nat.{ℕ, ◌+◌, ◌≤◌, ◌<◌}
use native.Mathlib.Omega.{arith}
use lib.Dec.{ltb}
use borrow.Author.Tests.{ltb-true, ltb-false}
use Rattle.base.specs.Said.{gives, refuses, and_then, failure}
use Rattle.base.specs.Checks.{first-fail}
use Rattle.table.specs.declared.MBR.{MBR}
use Rattle.block.specs.Block.{table_in, block_checks}
use Rattle.table_lookup.specs.Find.{find_says}
use Rattle.table_remove.specs.RemoveAt.{remove_at_says}
use Rattle.table_lookup.proofs.at_sector.Search.{found-logical}
use Rattle.block.specs.Blocks.{block_says, bytes_after}
use Rattle.block.proofs.calls.Laws.{fails-done}
use Rattle.block_remove.specs.ByNumberRemoved.{without_number}
use Rattle.block_remove.specs.AtSectorRemoved.{removed_at_on}

-- removal by a sector: refused, or done
module _ (b : List ℕ) (s : ℕ) where
  abbrev t : MBR
  t = table_in b

  pub at-refused : (k : ℕ) → first-fail (block_checks b) ≡ None → find_says t s ≡ refuses k
      → (Some k ≡ failure (and_then (block_says b) (λ (t : MBR). remove_at_says t s))) × (b ≡ bytes_after b (removed_at_on b s))
  unfolding remove_at_says
  at-refused k h e = fails-done b b (λ (t : MBR). remove_at_says t s) (removed_at_on b s) (Some k) h (rw e) (rw e)

  pub at_none : first-fail (block_checks b) ≡ None → find_says t s ≡ gives None
      → (Some 15 ≡ failure (and_then (block_says b) (λ (t : MBR). remove_at_says t s))) × (b ≡ bytes_after b (removed_at_on b s))
  unfolding remove_at_says
  at_none h e = fails-done b b (λ (t : MBR). remove_at_says t s) (removed_at_on b s) (Some 15) h (rw e) (rw e)

  pub at_done : (n : ℕ) (c : List ℕ) → first-fail (block_checks b) ≡ None → find_says t s ≡ gives (Some n) → c ≡ without_number b t.count n
      → (None ≡ failure (and_then (block_says b) (λ (t : MBR). remove_at_says t s))) × (c ≡ bytes_after b (removed_at_on b s))
  unfolding remove_at_says
  at_done n c h e f = fails-done b c (λ (t : MBR). remove_at_says t s) (removed_at_on b s) None h (rw e) (f ∙ rw e)

  -- a number that is found is one of the table's
  pub found_below : (n : ℕ) → find_says t s ≡ gives (Some n) → n < 5 + t.count
  found_below n e = go (ltb n 5) refl
    where
      go : (x : Bool) → ltb n 5 ≡ x → n < 5 + t.count
      go true f =
          let p : n < 5 = ltb-true _ _ f in
          omega arith
      go false f =
          let p : 5 ≤ n = ltb-false _ _ f in
          omega (arith, (found-logical t s n e p).0)
