-- From writing a block to an extract and the block as writing leaves it. Assumes nothing.
use mathlib.Core.Path.{◌≡◌, refl, sym, ap, ◌∙◌}
use Rattle.std.specs.Prelude.{None, Some}
use mathlib.Core.List.{List}
use Prim.Native.Nat.{ℕ}
use lib.ListN.{length}
use Rattle.base.specs.Said.{Said, refuses}
use Rattle.base.specs.Checks.{first-fail}
use Rattle.table.specs.declared.MBR.{MBR}
use Rattle.block.specs.Block.{table_in, block_checks}
use Rattle.write_rules.specs.Answers.{write_says, write_table}
use Rattle.block.specs.Blocks.{block_says, bytes_after, table_after}
use Rattle.block.proofs.calls.Laws.{block-done, block_refused, on-refused, on-done, after-refused, after-done, passed}
use Rattle.abi_write.specs.Writing.{length_of, table_output}
use Rattle.write_table.specs.InPlace.{written_on}
use Rattle.write_table.proofs.InPlace.{Wrote}

-- the same of any bytes
module _ (b x out : List ℕ) where
  abbrev Wrote-into : Said ℕ → List ℕ → List ℕ → Type 0
  Wrote-into r o c =
      (r ≡ length_of (block_says b) x (length out))
      × ((o ≡ table_output (block_says b) x out) × ((c ≡ bytes_after b (written_on b x (length out))) × (block_says c ≡ table_after b (λ t. write_table t x (length out)))))

  pub into-refused : (k : ℕ) → first-fail (block_checks b) ≡ Some k → Wrote-into (refuses k) out b
  into-refused k h =
      let w = on-refused b (λ (t : MBR). write_says t x (length out)) (written_on b x (length out)) k h in
      (sym w.0, (sym (ap (λ (s : Said MBR). table_output s x out) (block_refused b k h)), (w.1, after-refused b (λ (t : MBR). write_table t x (length out)) k h)))

  pub into-done : (s : Said ℕ) (o c : List ℕ) (h : first-fail (block_checks b) ≡ None) → Wrote b x out (passed b h) s o c → Wrote-into s o c
  into-done s o c h v =
      let w = on-done b c (λ (t : MBR). write_says t x (length out)) (written_on b x (length out)) h v.1.1.0 in
      (v.0 ∙ sym w.0, (v.1.0 ∙ sym (ap (λ (s : Said MBR). table_output s x out) (block-done b (table_in b) h refl)), (w.1, after-done b c c (λ (t : MBR). write_table t x (length out)) h refl v.1.1.1)))
