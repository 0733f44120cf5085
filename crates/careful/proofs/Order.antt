-- The list up to the place of a new partition, and behind it. Assumes nothing.
use mathlib.Core.Path.{◌≡◌, refl, ap, sym, ◌∙◌}
use mathlib.Core.List.{List, [], ◌∷◌, ◌++◌, append_assoc}
use Prim.Native.Nat.{ℕ, ◌-◌}
use native.Mathlib.Omega.{arith}
use lib.ListN.{length, take, drop, length-append, take-append-drop}
use lib.Seq.{take_at}
use Rattle.table.specs.declared.LogicalPartition.{LogicalPartition}
use Rattle.careful.specs.Stores.{last_logical, last_listed, last_moved}

-- all but the last
unfoldable pub init_of : LogicalPartition → List LogicalPartition → List LogicalPartition
init_of l [] = []
init_of l (m ∷ ms) = l ∷ init_of m ms

init-last : (l : LogicalPartition) (ls : List LogicalPartition) → init_of l ls ++ last_logical l ls ∷ [] ≡ l ∷ ls
unfolding init_of last_logical
init-last l [] = refl
init-last l (m ∷ ms) = ap (◌∷◌ l) (init-last m ms)

-- what follows the last
pub init-joined : (l : LogicalPartition) (ls ms : List LogicalPartition) → init_of l ls ++ last_logical l ls ∷ ms ≡ (l ∷ ls) ++ ms
init-joined l ls ms = sym (append_assoc (init_of l ls) (last_logical l ls ∷ []) ms) ∙ ap (λ (k : List LogicalPartition). k ++ ms) (init-last l ls)

-- a list cut behind its first and j more
pub cut_at : (l : LogicalPartition) (ls : List LogicalPartition) (j : ℕ) → l ∷ ls ≡ init_of l (take j ls) ++ last_logical l (take j ls) ∷ drop j ls
cut_at l ls j = sym (init-joined l (take j ls) (drop j ls) ∙ ap (◌∷◌ l) (take-append-drop j ls))

last-append : (ls : List LogicalPartition) (n : LogicalPartition) → last_listed (ls ++ n ∷ []) ≡ n
unfolding last_listed last_logical
last-append [] n = refl
last-append (l ∷ ls) n = go l ls
  where
    go : (l : LogicalPartition) (ls : List LogicalPartition) → last_logical l (ls ++ n ∷ []) ≡ n
    go l [] = refl
    go l (m ∷ ms) = go m ms

-- the last one put behind the first k
pub moved-last : (k : ℕ) (ls : List LogicalPartition) (n : LogicalPartition) → last_moved k (ls ++ n ∷ []) ≡ take k ls ++ n ∷ drop k ls
unfolding last_moved
moved-last k ls n =
    let e : take (length (ls ++ n ∷ []) - 1) (ls ++ n ∷ []) ≡ ls = take_at ls (n ∷ []) (length (ls ++ n ∷ []) - 1) (omega (arith, length-append ls (n ∷ []))) in
    rw (e, last-append ls n)
