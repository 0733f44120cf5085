-- The starts collected one by one. Assumes nothing.
use mathlib.Core.Path.{◌≡◌, sym, ap, ◌∙◌}
use mathlib.Core.List.{List, [], ◌∷◌, ◌++◌, map, append_assoc, map-append}
use Prim.Native.Nat.{ℕ, ◌+◌, ◌<◌}
use native.Mathlib.Numerals.{add-one}
use lib.ListN.{length, get_or, take}
use lib.Seq.{take-suc}
use Rattle.record_entry.specs.declared.MBRPartitionEntry.{MBRPartitionEntry}
use Rattle.chain.specs.Walk.{part_in}
use Rattle.read_align.specs.Align.{used_starts}
use Rattle.read_align.proofs.Laws.{starts-append}

-- the used starts
pub primary-starts : (one two three four : MBRPartitionEntry)
    → (([] ++ used_starts (one ∷ [])) ++ used_starts (two ∷ []) ++ used_starts (three ∷ [])) ++ used_starts (four ∷ []) ≡ used_starts (one ∷ two ∷ three ∷ four ∷ [])
primary-starts one two three four =
    sym
    (starts-append (one ∷ two ∷ three ∷ []) (four ∷ [])
    ∙ ap (λ (z : List ℕ). z ++ used_starts (four ∷ []))
    (starts-append (one ∷ two ∷ []) (three ∷ []) ∙ ap (λ (z : List ℕ). z ++ used_starts (three ∷ [])) (starts-append (one ∷ []) (two ∷ []))))

-- one more partition
pub starts-more : (es : List MBRPartitionEntry) (x is : List ℕ) (i : ℕ) → i < length is
    → used_starts (es ++ map (part_in x) (take i is)) ++ used_starts (part_in x (get_or is i 0) ∷ []) ≡ used_starts (es ++ map (part_in x) (take (i + 1) is))
starts-more es x is i b =
    let p = part_in x (get_or is i 0) in
    let ms = map (part_in x) (take i is) in
    let t : take (i + 1) is ≡ take i is ++ (get_or is i 0 ∷ []) = ap (λ (k : ℕ). take k is) (add-one i) ∙ take-suc is i 0 b in
    let m : map (part_in x) (take (i + 1) is) ≡ ms ++ (p ∷ []) = ap (map (part_in x)) t ∙ map-append (part_in x) (take i is) (get_or is i 0 ∷ []) in
    sym (starts-append (es ++ ms) (p ∷ []))
    ∙ ap used_starts (append_assoc es ms (p ∷ []))
    ∙ ap (λ (z : List MBRPartitionEntry). used_starts (es ++ z)) (sym m)
