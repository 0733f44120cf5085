-- The turns of a search for a sector. Assumes nothing.
use mathlib.Core.Path.{◌≡◌, refl, sym, ap, ◌∙◌}
use mathlib.Core.List.{List, [], ◌∷◌}
use mathlib.Core.Bool.{true, false}
use Rattle.std.specs.Prelude.{None, Some}
use Prim.Native.Nat.{ℕ, zero, suc, ◌+◌, ◌≤◌, ◌<◌}
use native.Mathlib.Omega.{arith}
use native.Mathlib.Numerals.{add-one}
use lib.ListN.{length, get_or, drop, length-map, drop_of_length-le}
use lib.Seq.{drop-cons, length-take-le, get_or-take}
use Rattle.base.specs.Pick.{pick}
use Rattle.base.specs.Said.{gives, refuses, and_then}
use Rattle.record_entry.specs.declared.MBRPartitionEntry.{MBRPartitionEntry}
use Rattle.record_entry.specs.Entry.{no_entry}
use Rattle.table.specs.declared.LogicalPartition.{LogicalPartition}
use Rattle.table.specs.Table.{logicals, parts, no_logical, most}
use Rattle.block.specs.Block.{table_in}
use Rattle.block.proofs.Inside.{slots-in, slots-long}
use Rattle.table_lookup.specs.Hits.{holds_says, first_at, numbered}

-- a search that has come to entry number i, and goes from n on
module _ (s n i : ℕ) (es : List MBRPartitionEntry) where
  one_more : i < length es
      → first_at s (n + i) (drop i es) ≡ and_then (holds_says s (get_or es i no_entry)) (λ b. pick b (gives (Some (numbered (n + i) (get_or es i no_entry)))) (first_at s (n + (i + 1)) (drop (i + 1) es)))
  unfolding first_at
  one_more h =
      let z : n + (i + 1) ≡ suc (n + i) = omega arith in
      rw (drop-cons es i no_entry h, z, add-one i)

  module _ (e : MBRPartitionEntry) (w : (i < length es) × (e ≡ get_or es i no_entry)) where
    pub hit : holds_says s e ≡ gives true → first_at s (n + i) (drop i es) ≡ gives (Some (numbered (n + i) e))
    hit t = one_more w.0 ∙ rw (← w.1, t)

    pub passed : holds_says s e ≡ gives false → first_at s (n + i) (drop i es) ≡ first_at s (n + (i + 1)) (drop (i + 1) es)
    passed t = one_more w.0 ∙ rw (← w.1, t)

    pub refused : (k : ℕ) → holds_says s e ≡ refuses k → first_at s (n + i) (drop i es) ≡ refuses k
    refused k t = one_more w.0 ∙ rw (← w.1, t)

  pub at-end : length es ≤ i → first_at s (n + i) (drop i es) ≡ gives None
  unfolding first_at
  at-end h = rw (drop_of_length-le es h)

-- the entries of the logical partitions in a block
part_of : (ls : List LogicalPartition) (i : ℕ) → get_or (parts ls) i no_entry ≡ (get_or ls i no_logical).partition
part_of [] i = refl
part_of (l ∷ ls) zero = refl
part_of (l ∷ ls) (suc i) = part_of ls i

module _ (b : List ℕ) (n : ℕ) (c : (table_in b).count ≤ most) (q : n ≡ (table_in b).count) where
  pub parts-long : length (parts (logicals (table_in b))) ≡ n
  parts-long =
      let l : length (table_in b).logical_partitions ≡ most = ap length (slots-in b) ∙ slots-long b most in
      length-map (logicals (table_in b)) _ ∙ length-take-le (table_in b).count (table_in b).logical_partitions (omega arith) ∙ sym q

  pub part-is : (i : ℕ) (e : MBRPartitionEntry) → i < n → e ≡ (get_or (table_in b).logical_partitions i no_logical).partition
      → (i < length (parts (logicals (table_in b)))) × (e ≡ get_or (parts (logicals (table_in b))) i no_entry)
  part-is i e h p =
      let x = get_or-take (table_in b).count (table_in b).logical_partitions i no_logical (omega arith) in
      (omega (arith, parts-long, h), p ∙ sym (part_of (logicals (table_in b)) i ∙ ap (λ (l : LogicalPartition). l.partition) x))
