-- Logical partitions by their place, and the store of a removal by it. Assumes nothing.
use mathlib.Core.Path.{◌≡◌, refl, ap, sym, ◌∙◌}
use Rattle.std.specs.Prelude.{Option, None, Some}
use mathlib.Core.List.{List, [], ◌∷◌}
use Prim.Native.Nat.{ℕ, zero, suc, ◌+◌, ◌-◌, ◌≤◌, ◌<◌}
use native.Mathlib.Omega.{arith}
use lib.ListN.{length, get_or, drop}
use lib.Seq.{drop-cons}
use Rattle.base.specs.Put.{put}
use Rattle.base.specs.Row.{next}
use Rattle.record_entry.specs.declared.MBRPartitionEntry.{MBRPartitionEntry}
use Rattle.extract.specs.Disk.{Store}
use Rattle.table.specs.declared.LogicalPartition.{LogicalPartition}
use Rattle.table.specs.Table.{no_logical}
use Rattle.careful_stores.specs.Stored.{store_bytes, wipe, moved}
use Rattle.careful.specs.Stores.{skip_store, remove_store}
use Rattle.careful_stores.specs.Linked.{link_behind, linked_store}
use Rattle.careful_stores.proofs.ebr_store.Laws.{write-linked}
use Rattle.careful_remove.specs.Place.{place_in}

-- the one at a place
drop-none : (ls : List LogicalPartition) (i : ℕ) → length ls ≤ i → drop i ls ≡ []
drop-none [] zero h = refl
drop-none [] (suc i) h = refl
drop-none (l ∷ ls) zero h = absurd (omega arith)
drop-none (l ∷ ls) (suc i) h = drop-none ls i (omega arith)

pub place_none : (ls : List LogicalPartition) (i : ℕ) → length ls ≤ i → place_in ls i ≡ None
place_none ls i h = rw (drop-none ls i h)

pub place-some : (ls : List LogicalPartition) (i : ℕ) → i < length ls → place_in ls i ≡ Some (get_or ls i no_logical)
place-some ls i h = rw (drop-cons ls i no_logical h)

-- the store of a removal
remove-only : (e : MBRPartitionEntry) (ls : List LogicalPartition) (i : ℕ) → length ls ≡ 1 → i < 1 → remove_store e ls i ≡ wipe e
unfolding remove_store
remove-only e [] i n h = absurd (omega arith)
remove-only e (y ∷ []) zero n h = refl
remove-only e (y ∷ []) (suc i) n h = absurd (omega arith)
remove-only e (y ∷ m ∷ ms) i n h = absurd (omega arith)

remove_first : (e : MBRPartitionEntry) (ls : List LogicalPartition) (i : ℕ) → i ≡ 0 → 1 < length ls
    → remove_store e ls i ≡ linked_store (moved e (get_or ls 1 no_logical)) (link_behind e (place_in ls 2))
unfolding remove_store
remove_first e [] i z h = absurd (omega arith)
remove_first e (y ∷ []) i z h = absurd (omega arith)
remove_first e (y ∷ m ∷ ms) zero z h = write-linked e (moved e m) (next ms None)
remove_first e (y ∷ m ∷ ms) (suc i) z h = absurd (omega arith)

skip_at : (e : MBRPartitionEntry) (l : LogicalPartition) (ls : List LogicalPartition) (i : ℕ) → i < length ls
    → skip_store e l ls i ≡ linked_store (get_or (l ∷ ls) i no_logical) (link_behind e (place_in ls (suc i)))
unfolding skip_store
skip_at e l [] i h = absurd (omega arith)
skip_at e l (y ∷ ms) zero h = write-linked e l (next ms None)
skip_at e l (y ∷ ms) (suc i) h = skip_at e y ms i (omega arith)

remove-later : (e : MBRPartitionEntry) (ls : List LogicalPartition) (i : ℕ) → (i ≡ 0 → ⊥) → i < length ls
    → remove_store e ls i ≡ linked_store (get_or ls (i - 1) no_logical) (link_behind e (place_in ls (i + 1)))
unfolding remove_store
remove-later e ls zero z h = absurd (z refl)
remove-later e [] (suc i) z h = absurd (omega arith)
remove-later e (l ∷ []) (suc i) z h = absurd (omega arith)
remove-later e (l ∷ y ∷ ms) (suc i) z h =
    let a : suc i - 1 ≡ i = omega arith in
    let b : suc i + 1 ≡ suc (suc i) = omega arith in
    skip_at e l (y ∷ ms) i (omega arith) ∙ sym (ap (λ (k : ℕ). linked_store (get_or (l ∷ y ∷ ms) k no_logical) (link_behind e (place_in (l ∷ y ∷ ms) (suc i + 1)))) a
    ∙ ap (λ (k : ℕ). linked_store (get_or (l ∷ y ∷ ms) i no_logical) (link_behind e (place_in (l ∷ y ∷ ms) k))) b)

-- what is written for it
module _ (d d₁ : List ℕ) (e : MBRPartitionEntry) (ls : List LogicalPartition) (i : ℕ) where
  pub only-removed : length ls ≡ 1 → i < length ls → d₁ ≡ put d 0 (store_bytes (wipe e)) → d₁ ≡ put d 0 (store_bytes (remove_store e ls i))
  only-removed n h w = w ∙ ap (λ (s : Store). put d 0 (store_bytes s)) (sym (remove-only e ls i n (omega arith)))

  module _ (l : LogicalPartition) (link : MBRPartitionEntry) (w : d₁ ≡ put d 0 (store_bytes (linked_store l link))) where
    same : (m : LogicalPartition) (o : Option LogicalPartition) → l ≡ m → link ≡ link_behind e o → d₁ ≡ put d 0 (store_bytes (linked_store m (link_behind e o)))
    same m o p q = w ∙ ap (λ (x : LogicalPartition). put d 0 (store_bytes (linked_store x link))) p ∙ ap (λ (x : MBRPartitionEntry). put d 0 (store_bytes (linked_store m x))) q

    pub first-removed : i ≡ 0 → 1 < length ls → l ≡ moved e (get_or ls 1 no_logical) → link ≡ link_behind e (place_in ls 2) → d₁ ≡ put d 0 (store_bytes (remove_store e ls i))
    first-removed z h p q = same (moved e (get_or ls 1 no_logical)) (place_in ls 2) p q ∙ ap (λ (s : Store). put d 0 (store_bytes s)) (sym (remove_first e ls i z h))

    pub later-removed : (i ≡ 0 → ⊥) → i < length ls → l ≡ get_or ls (i - 1) no_logical → link ≡ link_behind e (place_in ls (i + 1)) → d₁ ≡ put d 0 (store_bytes (remove_store e ls i))
    later-removed z h p q = same (get_or ls (i - 1) no_logical) (place_in ls (i + 1)) p q ∙ ap (λ (s : Store). put d 0 (store_bytes s)) (sym (remove-later e ls i z h))
