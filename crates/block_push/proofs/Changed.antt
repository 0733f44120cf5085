-- Push on a block where it lies, refused or done. Assumes nothing.
use mathlib.Core.Path.{◌≡◌, sym, ap, ◌∙◌}
use mathlib.Core.List.{List}
use Rattle.std.specs.Prelude.{None, Some}
use Prim.Native.Nat.{ℕ, ◌+◌}
use Rattle.base.specs.Said.{Said, gives, refuses, and_then, value_or}
use Rattle.base.specs.Checks.{first-fail}
use Rattle.record_entry.specs.declared.MBRPartitionEntry.{MBRPartitionEntry}
use Rattle.table.specs.declared.LogicalPartition.{LogicalPartition}
use Rattle.table.specs.declared.MBR.{MBR}
use Rattle.block.specs.Block.{table_in, block_checks}
use Rattle.block.specs.Blocks.{block_says, bytes_after}
use Rattle.block.proofs.calls.Laws.{says-done}
use Rattle.block_slot.specs.Changed.{with_slot}
use Rattle.table_push.specs.declared.request.Request.{Request}
use Rattle.table_push.specs.Asked.{later_than}
use Rattle.table_push.specs.Push.{new_logical, request_of, push_checks, push_says}
use Rattle.block_push.specs.Pushed.{pushed_on}

-- what is asked for, in the code's words
pub asked : (t : MBR) (sys start sectors : ℕ) (q : Request) (e : MBRPartitionEntry) (n : ℕ) → q ≡ request_of t sys start sectors → n ≡ t.count
    → first-fail (push_checks (request_of t sys start sectors) (Some e) t.count) ≡ first-fail (push_checks q (Some e) n)
asked t sys start sectors q e n f g = rw (f, g)

pub made : (t : MBR) (sys start sectors : ℕ) (q : Request) (n : ℕ) → q ≡ request_of t sys start sectors → n ≡ t.count
    → new_logical (later_than n) q ≡ new_logical (later_than t.count) (request_of t sys start sectors)
made t sys start sectors q n f g = rw (f, g)

-- push: refused, or done
module _ (b : List ℕ) (sys start sectors : ℕ) where
  abbrev t : MBR
  t = table_in b

  abbrev q : Request
  q = request_of t sys start sectors

  abbrev new : LogicalPartition
  new = new_logical (later_than t.count) q

  abbrev says : MBR → Said ℕ
  says t = push_says t sys start sectors

  pub push-refused : (k : ℕ) → says t ≡ refuses k → b ≡ value_or b (pushed_on b sys start sectors t)
  push-refused k e =
      sym (ap (λ (s : Said ℕ). value_or b (and_then s (λ (_ : ℕ). gives (with_slot b t.count new)))) e)

  pub push-done : (l : LogicalPartition) (c : List ℕ) → says t ≡ gives (t.count + 5) → l ≡ new → c ≡ with_slot b t.count l → c ≡ value_or b (pushed_on b sys start sectors t)
  push-done l c e f g =
      g ∙ ap (with_slot b t.count) f ∙ sym (ap (λ (s : Said ℕ). value_or b (and_then s (λ (_ : ℕ). gives (with_slot b t.count new)))) e)

  -- with the block's checks
  module _ (h : first-fail (block_checks b) ≡ None) where
    pub refused-on : (k : ℕ) → says t ≡ refuses k → (refuses k ≡ and_then (block_says b) says) × (b ≡ bytes_after b (pushed_on b sys start sectors))
    refused-on k e = says-done b b says (pushed_on b sys start sectors) (refuses k) h (sym e) (push-refused k e)

    pub done-on : (l : LogicalPartition) (c : List ℕ) → says t ≡ gives (t.count + 5) → l ≡ new → c ≡ with_slot b t.count l
        → (gives (t.count + 5) ≡ and_then (block_says b) says) × (c ≡ bytes_after b (pushed_on b sys start sectors))
    done-on l c e f g = says-done b c says (pushed_on b sys start sectors) (gives (t.count + 5)) h (sym e) (push-done l c e f g)
