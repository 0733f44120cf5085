-- The table in a block after removal by a sector, where it lies. Assumes nothing.
use mathlib.Core.Path.{◌≡◌, refl}
use mathlib.Core.List.{List}
use Rattle.std.specs.Prelude.{Option, None, Some}
use Prim.Native.Nat.{ℕ, ◌+◌, ◌<◌}
use native.Mathlib.Omega.{arith}
use Rattle.base.specs.Said.{Said, gives, refuses, and_then, value_or}
use Rattle.base.specs.Checks.{first-fail}
use Rattle.table.specs.declared.MBR.{MBR}
use Rattle.block.specs.Block.{table_in, block_checks, Passed}
use Rattle.block_slot.specs.Changed.{without_slot, without_entry}
use Rattle.block_slot.proofs.changes.Alike.{good-says}
use Rattle.block_slot.proofs.changes.Changes.{removal-good, removal-table, entry-good, entry-table}
use Rattle.table_remove.specs.Less.{without, without_primary}
use Rattle.table_lookup.specs.declared.Kind.{Kind}
use Rattle.table_lookup.specs.declared.Kind.TheVariants.{Nothing, Primary, Logical}
use Rattle.table_lookup.specs.Numbers.{kind_of}
use Rattle.table_lookup.proofs.Decision.{names}
use Rattle.table_lookup.specs.Find.{find_says}
use Rattle.table_remove.specs.RemoveAt.{without_kind, remove_found, remove_at_says}
use Rattle.block.specs.Blocks.{block_says}
use Rattle.block.proofs.calls.Laws.{block-done, passed}
use Rattle.block_remove.specs.ByNumberRemoved.{without_kind_on, without_number}
use Rattle.block_remove.specs.AtSectorRemoved.{found_on, removed_at_on}
use Rattle.block_remove.proofs.at_sector.Changed.{found_below}

-- the block without partition number n
module _ (b : List ℕ) (n : ℕ) (h : first-fail (block_checks b) ≡ None) (k : n < 5 + (table_in b).count) where
  number-table : block_says (without_number b (table_in b).count n) ≡ gives (without_kind (table_in b) (kind_of n))
  number-table = go (kind_of n) refl
    where
      g : Passed b
      g = passed b h

      go : (x : Kind) → kind_of n ≡ x → block_says (without_kind_on b (table_in b).count x) ≡ gives (without_kind (table_in b) x)
      go Nothing e = block-done b (table_in b) h refl
      go (Primary i) e =
          let w = names n (Primary i) e in
          good-says (without_entry b i) (without_primary (table_in b) i) (entry-good b i g w.1 w.2) (entry-table b i g w.1 w.2)
      go (Logical j) e =
          let w = names n (Logical j) e in
          let p : j < (table_in b).count = omega (arith, w, k) in
          good-says (without_slot b (table_in b).count j) (without (table_in b) j) (removal-good b j g p) (removal-table b j g p)

-- the table after removal by a sector
module _ (b : List ℕ) (s : ℕ) where
  abbrev t : MBR
  t = table_in b

  pub removed-at-table : first-fail (block_checks b) ≡ None → block_says (value_or b (removed_at_on b s t)) ≡ gives (value_or t (remove_at_says t s))
  unfolding remove_at_says
  removed-at-table h = go (find_says t s) refl
    where
      go : (f : Said (Option ℕ)) → find_says t s ≡ f → block_says (value_or b (and_then f (found_on b t.count))) ≡ gives (value_or t (and_then f (remove_found t)))
      go (refuses k) e = block-done b t h refl
      go (gives None) e = block-done b t h refl
      go (gives (Some n)) e = number-table b n h (found_below b s n e)
