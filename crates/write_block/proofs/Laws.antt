-- A block as writing leaves it, and the table in it. Assumes nothing.
use mathlib.Core.Path.{◌≡◌, refl, sym, ap, subst, ◌∙◌}
use Rattle.std.specs.Prelude.{Option, None, Some}
use mathlib.Core.List.{List, ◌++◌}
use Prim.Native.Nat.{ℕ, ◌+◌, ◌≤◌}
use native.Mathlib.Omega.{arith}
use lib.ListN.{length, drop}
use Rattle.base.specs.Said.{gives}
use Rattle.record_entry.specs.declared.MBRPartitionEntry.{MBRPartitionEntry}
use Rattle.table.specs.declared.LogicalPartition.{LogicalPartition}
use Rattle.table.specs.Table.{extended_in, with_logicals, most}
use Rattle.block.specs.Block.{slots_put, table_in, Passed}
use Rattle.block.specs.Fits.{SlotsFit}
use Rattle.write_rules.specs.AsWritten.{relisted, as_written_in}
use Rattle.write_rules.proofs.as_written.Laws.{held-long, settled-long}
use Rattle.block_slot.proofs.changes.Alike.{good-says}
use Rattle.block_slot.proofs.changes.Slots.{slots-put, slots-good}
use Rattle.write_rules.specs.Write.{left_by}
use Rattle.block.specs.Blocks.{block_says}
use Rattle.block.proofs.calls.Laws.{passes, block-done}
use Rattle.write_block.specs.Written.{left_in}

-- a block as writing leaves it, and the table in it
abbrev pub Left : List ℕ → List ℕ → Option MBRPartitionEntry → Type 0
Left b c o = (c ≡ left_in o b (table_in b)) × (block_says c ≡ gives (left_by o (table_in b)))

module _ (b : List ℕ) (h : Passed b) where
  pub left-none : extended_in (table_in b) ≡ None → Left b b (extended_in (table_in b))
  left-none e = subst (Left b b) (sym e) (refl, block-done b (table_in b) (passes b h) refl)

  module _ (x : ℕ) (f : SlotsFit (as_written_in (table_in b) x)) where
    abbrev ls : List LogicalPartition
    ls = as_written_in (table_in b) x

    many : length ls ≡ (table_in b).count
    many = settled-long (table_in b) x (held-long b h)

    few : 0 + length ls ≤ most
    few = omega (arith, many, h.few)

    settled_says : block_says (slots_put b ls) ≡ gives (relisted (table_in b) ls)
    unfolding slots_put
    settled_says =
        let n : 0 + length ls ≡ (table_in b).count = omega (arith, many) in
        good-says (slots_put b ls) (relisted (table_in b) ls) (slots-good b ls 0 h f few)
        (slots-put b ls 0 h f few ∙ ap (λ (n : ℕ). with_logicals (table_in b) (ls ++ drop n (table_in b).logical_partitions) (table_in b).count) n)

  pub left-some : (e : MBRPartitionEntry) (c : List ℕ) → extended_in (table_in b) ≡ Some e → c ≡ slots_put b (as_written_in (table_in b) e.starting_lba)
      → SlotsFit (as_written_in (table_in b) e.starting_lba) → Left b c (extended_in (table_in b))
  left-some e c i p f = subst (Left b c) (sym i) (p, ap block_says p ∙ settled_says e.starting_lba f)
