-- From writing a block to an extract and the block as writing leaves it. Assumes nothing.
use mathlib.Core.Path.{◌≡◌, refl, sym, ap, ◌∙◌}
use mathlib.Core.List.{List}
use Prim.Native.Nat.{ℕ}
use lib.ListN.{length}
use Rattle.base.specs.Said.{Said, gives, refuses, and_then, value_or}
use Rattle.base.proofs.Checks.{answer-gives}
use Rattle.table.specs.declared.MBR.{MBR}
use Rattle.table.specs.Table.{extended_in}
use Rattle.block.specs.Block.{table_in, block_checks, Passed}
use Rattle.write_rules.specs.Write.{left_by}
use Rattle.write_rules.specs.Answers.{write_says, write_table, write_leaves}
use Rattle.write_rules.proofs.Said.{table-said}
use Rattle.block.specs.Blocks.{block_says}
use Rattle.block.proofs.calls.Laws.{block-done, passes}
use Rattle.write_block.specs.Written.{left_in}
use Rattle.write_table.specs.InPlace.{written_on}
use Rattle.write_block.proofs.Laws.{Left}

-- the table that a block says is the one in it
pub says-table : (b : List ℕ) (t : MBR) → block_says b ≡ gives t → table_in b ≡ t
says-table b t e = (answer-gives (block_checks b) (table_in b) t e).1

-- writing a block that passes its checks: the answer, the output and the block afterwards
module _ (b x out : List ℕ) (h : Passed b) where
  abbrev t : MBR
  t = table_in b

  abbrev room : ℕ
  room = length out

  abbrev pub Wrote : Said ℕ → List ℕ → List ℕ → Type 0
  Wrote s o c =
      (s ≡ write_says t x room) × ((o ≡ write_leaves t x out) × ((c ≡ value_or b (written_on b x room t)) × (block_says c ≡ gives (write_table t x room))))

  on-block : (s : Said ℕ) → write_says t x room ≡ s → value_or b (written_on b x room t) ≡ value_or b (and_then s (λ _. gives (left_in (extended_in t) b t)))
  on-block s e = ap (λ (z : Said ℕ). value_or b (and_then z (λ (_ : ℕ). gives (left_in (extended_in t) b t)))) e

  pub writing-refused : (k : ℕ) (o : List ℕ) → write_says t x room ≡ refuses k → o ≡ write_leaves t x out → Wrote (refuses k) o b
  writing-refused k o e q =
      (sym e, (q, (sym (on-block (refuses k) e), block-done b t (passes b h) refl ∙ ap gives (table-said t t x room (refuses k) (sym e) refl))))

  pub writing-done : (n : ℕ) (o c : List ℕ) → write_says t x room ≡ gives n → o ≡ write_leaves t x out → Left b c (extended_in t) → Wrote (gives n) o c
  writing-done n o c e q l =
      (sym e, (q, (l.0 ∙ sym (on-block (gives n) e), l.1 ∙ ap gives (table-said t (left_by (extended_in t) t) x room (gives n) (sym e) refl))))
