-- Another disk for the table in a block, where it lies, and the table that is then in it. Assumes nothing.
use mathlib.Core.Path.{◌≡◌, refl, subst, ◌∙◌}
use mathlib.Core.List.{List}
use Rattle.std.specs.Prelude.{None, Some}
use Prim.Native.Nat.{ℕ, ◌+◌, ◌<◌, ◌^◌}
use borrow.Author.Tests.{le-leb}
use Rattle.base.specs.Bytes.{Bytes, bytes_at, little}
use Rattle.base.specs.Said.{Said, gives, refuses, and_then, failure, value_or}
use Rattle.base.specs.Checks.{first-fail}
use Rattle.base.proofs.Bytes.{byte_at, number-below}
use Rattle.base.proofs.Checks.{answer-gives}
use Rattle.extract.specs.declared.Extract.{Extract}
use Rattle.extract.specs.Extract.{word, extract_checks}
use Rattle.extract.specs.Answers.{header_of, check_says}
use Rattle.table.specs.declared.MBR.{MBR}
use Rattle.block.specs.Block.{table_in, block_checks, Passed}
use Rattle.block_slot.specs.Changed.{with_disk}
use Rattle.block_slot.proofs.changes.Alike.{good-says}
use Rattle.block_slot.proofs.changes.Changes.{disk-good, disk-table}
use Rattle.table_new.specs.Disk.{on_disk, update_says}
use Rattle.block.specs.Blocks.{block_says}
use Rattle.block.proofs.calls.Laws.{block-done, passed, passes, fails-done}
use Rattle.block_new.specs.Updated.{updated_on}

-- another disk
word_below : (x : List ℕ) (at : ℕ) → Bytes x → word x at < 2 ^ 32
unfolding word
word_below x at k = number-below little (bytes_at x at 4) (byte_at x k at, (byte_at x k (at + 1), (byte_at x k (at + 2), (byte_at x k (at + 3), tt))))

module _ (b x : List ℕ) where
  abbrev u : MBR
  u = table_in b

  abbrev says : MBR → Said MBR
  says t = update_says t x

  pub disk-refused : (k : ℕ) → first-fail (block_checks b) ≡ None → check_says x ≡ refuses k
      → (Some k ≡ failure (and_then (block_says b) says)) × (b ≡ value_or b (updated_on b x u))
  unfolding update_says
  disk-refused k h e =
      let f = le-leb _ _ (passed b h).few in
      ((fails-done b b says (updated_on b x) (Some k) h (rw (f, e)) (rw e)).0, rw e)

  pub disk-done : (d : Extract) (c : List ℕ) → first-fail (block_checks b) ≡ None → check_says x ≡ gives d → c ≡ with_disk b d.sector_size d.disk_size
      → (None ≡ failure (and_then (block_says b) says)) × (c ≡ value_or b (updated_on b x u))
  unfolding update_says
  disk-done d c h e g =
      let f = le-leb _ _ (passed b h).few in
      ((fails-done b b says (λ (_ : MBR). gives b) None h (rw (f, e)) refl).0, g ∙ rw e)

  of-header : (d : Extract) → check_says x ≡ gives d → header_of x ≡ d
  unfolding check_says
  of-header d e = (answer-gives (extract_checks x) (header_of x) d e).1

  pub updated-table : Bytes x → Passed b → block_says (value_or b (updated_on b x u)) ≡ gives (value_or u (update_says u x))
  unfolding update_says
  updated-table y h = rw (le-leb _ _ h.few) (go (check_says x) refl)
    where
      go : (f : Said Extract) → check_says x ≡ f
          → block_says (value_or b (and_then f (λ (d : Extract). gives (with_disk b d.sector_size d.disk_size)))) ≡ gives (value_or u (and_then f (λ (d : Extract). gives (on_disk u d))))
      go (refuses k) e = block-done b u (passes b h) refl
      go (gives d) e =
          let z : header_of x ≡ d = of-header d e in
          let p : d.sector_size < 2 ^ 32 = subst (λ (d : Extract). d.sector_size < 2 ^ 32) z (word_below x 0 y) in
          let q : d.disk_size < 2 ^ 32 = subst (λ (d : Extract). d.disk_size < 2 ^ 32) z (word_below x 4 y) in
          good-says (with_disk b d.sector_size d.disk_size) (on_disk u d) (disk-good b d.sector_size d.disk_size h p q) (disk-table b d.sector_size d.disk_size h p q)
