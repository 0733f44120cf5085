-- The table in a block after push and removal where it lies: the library's own. Assumes nothing.
use mathlib.Core.Path.{◌≡◌, refl, sym, ap, ◌∙◌}
use mathlib.Core.List.{List}
use Rattle.std.specs.Prelude.{Option, None, Some}
use Prim.Native.Nat.{ℕ, ◌+◌, ◌-◌, ◌<◌}
use borrow.Author.Tests.{ltb-true}
use Rattle.base.specs.Said.{Said, gives, refuses, value_or}
use Rattle.base.specs.Checks.{first-fail}
use Rattle.base.proofs.Checks.{checked-some, checked-none, none-fails}
use Rattle.table.specs.declared.LogicalPartition.{LogicalPartition}
use Rattle.table.specs.declared.MBR.{MBR}
use Rattle.table.specs.Table.{extended_in}
use Rattle.block.specs.Block.{table_in, block_checks, Passed}
use Rattle.block_slot.specs.Changed.{with_slot, without_slot}
use Rattle.block_slot.proofs.changes.Alike.{good-says}
use Rattle.block_slot.proofs.changes.Changes.{slot-good, slot-table, removal-good, removal-table}
use Rattle.table_push.specs.declared.request.Request.{Request}
use Rattle.table_push.specs.Asked.{later_than}
use Rattle.table_push.specs.Push.{new_logical, request_of, table_push_checks, pushed_to, push_says, push_table}
use Rattle.table_remove.specs.Less.{without}
use Rattle.table_remove.specs.Remove.{remove_checks, removed_table}
use Rattle.block.specs.Blocks.{block_says}
use Rattle.block_push.specs.Pushed.{pushed_on}
use Rattle.block_remove.specs.ByNumberRemoved.{removed_on}
use Rattle.block.proofs.calls.Laws.{block-done, passed}
use Rattle.abi_table.proofs.Fresh.{push-fits}
use Rattle.block_push.proofs.Changed.{push-refused, push-done}

-- the table after a push
module _ (b : List ℕ) (sys start sectors : ℕ) where
  abbrev t : MBR
  t = table_in b

  abbrev q : Request
  q = request_of t sys start sectors

  abbrev new : LogicalPartition
  new = new_logical (later_than t.count) q

  refused-table : (k : ℕ) → first-fail (block_checks b) ≡ None → first-fail (table_push_checks t q) ≡ Some k
      → block_says (value_or b (pushed_on b sys start sectors t)) ≡ gives (push_table t sys start sectors)
  unfolding push_says push_table
  refused-table k h e =
      ap block_says (sym (push-refused b sys start sectors k (checked-some (table_push_checks t q) refuses (gives (t.count + 5)) k e))) ∙ block-done b t h refl
      ∙ ap gives (sym (checked-some (table_push_checks t q) (λ (_ : ℕ). t) (pushed_to t q) k e))

  done-table : first-fail (block_checks b) ≡ None → first-fail (table_push_checks t q) ≡ None
      → block_says (value_or b (pushed_on b sys start sectors t)) ≡ gives (push_table t sys start sectors)
  unfolding push_says push_table table_push_checks pushed_to
  done-table h e =
      let g : Passed b = passed b h in
      let f = push-fits q (extended_in t) t.count (none-fails (table_push_checks t q) e).1 in
      ap block_says (sym (push-done b sys start sectors new (with_slot b t.count new) (checked-none (table_push_checks t q) refuses (gives (t.count + 5)) e) refl refl))
      ∙ good-says (with_slot b t.count new) (pushed_to t q) (slot-good b new g f.0 f.1) (slot-table b new g f.0 f.1)
      ∙ ap gives (sym (checked-none (table_push_checks t q) (λ (_ : ℕ). t) (pushed_to t q) e))

  pub pushed-table : first-fail (block_checks b) ≡ None → block_says (value_or b (pushed_on b sys start sectors t)) ≡ gives (push_table t sys start sectors)
  pushed-table h = go (first-fail (table_push_checks t q)) refl
    where
      go : (o : Option ℕ) → first-fail (table_push_checks t q) ≡ o → block_says (value_or b (pushed_on b sys start sectors t)) ≡ gives (push_table t sys start sectors)
      go None e = done-table h e
      go (Some k) e = refused-table k h e

-- the table after the removal of a logical partition by its number
module _ (b : List ℕ) (n : ℕ) (h : first-fail (block_checks b) ≡ None) where
  abbrev u : MBR
  u = table_in b

  pub removed-table : block_says (value_or b (removed_on b n u)) ≡ gives (removed_table u n)
  removed-table = go (first-fail (remove_checks u n)) refl
    where
      go : (o : Option ℕ) → first-fail (remove_checks u n) ≡ o → block_says (value_or b (removed_on b n u)) ≡ gives (removed_table u n)
      go None e =
          let g : Passed b = passed b h in
          let k : n - 5 < u.count = ltb-true _ _ (none-fails (remove_checks u n) e).1.1.0 in
          ap (λ (s : Said (List ℕ)). block_says (value_or b s)) (checked-none (remove_checks u n) refuses (gives (without_slot b u.count (n - 5))) e)
          ∙ good-says (without_slot b u.count (n - 5)) (without u (n - 5)) (removal-good b (n - 5) g k) (removal-table b (n - 5) g k)
          ∙ ap gives (sym (checked-none (remove_checks u n) (λ (_ : ℕ). u) (without u (n - 5)) e))
      go (Some k) e =
          ap (λ (s : Said (List ℕ)). block_says (value_or b s)) (checked-some (remove_checks u n) refuses (gives (without_slot b u.count (n - 5))) k e)
          ∙ block-done b u h refl
          ∙ ap gives (sym (checked-some (remove_checks u n) (λ (_ : ℕ). u) (without u (n - 5)) k e))
