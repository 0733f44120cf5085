-- Laws of the lines of entries. Assumes nothing.
use mathlib.Core.Path.{◌≡◌, refl, ap, ◌∙◌}
use mathlib.Core.List.{List, [], ◌∷◌, ◌++◌, append_assoc, append-nil}
use Prim.Native.Nat.{ℕ, suc, ◌+◌, ◌<◌}
use native.Mathlib.Nat.{add-zero}
use native.Mathlib.Numerals.{add-one}
use native.Mathlib.Omega.{arith}
use lib.ListN.{length, take, get_or, length-map}
use lib.Seq.{take-suc, length-take-le}
use Rattle.record_entry.specs.declared.MBRPartitionEntry.{MBRPartitionEntry}
use Rattle.record_mbr.specs.declared.MBRHeader.{MBRHeader}
use Rattle.record_mbr.specs.Mbr.{primaries}
use Rattle.table.specs.declared.LogicalPartition.{LogicalPartition}
use Rattle.table.specs.Table.{parts, no_logical}
use Rattle.read_listing.specs.Lines.{used_line, entry_lines}

-- the lines of a list and of what follows it
pub lines-append : (n : ℕ) (es fs : List MBRPartitionEntry) → entry_lines n (es ++ fs) ≡ entry_lines n es ++ entry_lines (n + length es) fs
unfolding entry_lines
lines-append n [] fs = rw add-zero
lines-append n (e ∷ es) fs =
    let z : n + 1 + length es ≡ n + suc (length es) = omega arith in
    rw (lines-append (n + 1) es fs, z, append_assoc)

pub lines-one : (n : ℕ) (e : MBRPartitionEntry) → entry_lines n (e ∷ []) ≡ used_line n e
unfolding entry_lines
lines-one n e = append-nil (used_line n e)

parts-append : (ls ms : List LogicalPartition) → parts (ls ++ ms) ≡ parts ls ++ parts ms
parts-append [] ms = refl
parts-append (l ∷ ls) ms = rw (parts-append ls ms)

-- one more logical partition
pub lines_more : (ls : List LogicalPartition) (i : ℕ) → i < length ls
    → entry_lines 5 (parts (take (i + 1) ls)) ≡ entry_lines 5 (parts (take i ls)) ++ used_line (5 + i) (get_or ls i no_logical).partition
lines_more ls i h =
    let e : take (i + 1) ls ≡ take i ls ++ (get_or ls i no_logical ∷ []) = rw add-one (take-suc ls i no_logical h) in
    let n : length (parts (take i ls)) ≡ i = length-map (take i ls) _ ∙ length-take-le i ls (omega arith) in
    ap (λ (m : List LogicalPartition). entry_lines 5 (parts m)) e ∙ ap (entry_lines 5) (parts-append (take i ls) (get_or ls i no_logical ∷ []))
    ∙ lines-append 5 (parts (take i ls)) ((get_or ls i no_logical).partition ∷ []) ∙ rw (n, lines-one)

-- the four primary entries
pub lines-four : (h : MBRHeader) → entry_lines 1 (primaries h) ≡ used_line 1 h.partition_1 ++ used_line 2 h.partition_2 ++ used_line 3 h.partition_3 ++ used_line 4 h.partition_4
unfolding entry_lines
lines-four h = simp (append_assoc, append-nil)
