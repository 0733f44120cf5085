-- The stores of a push written, and from refusals and stores to what a careful change says. Assumes nothing.
use Rattle.base.specs.declared.Refusal.{Refusal}
use mathlib.Core.Path.{◌≡◌, ap, sym, ◌∙◌}
use Rattle.std.specs.Prelude.{Option, None, Some, Result, Ok}
use mathlib.Core.List.{List, [], ◌∷◌, ◌++◌, append-nil}
use Prim.Native.Nat.{ℕ, ◌≤◌}
use native.Mathlib.Omega.{arith}
use lib.ListN.{length}
use Rattle.base.specs.Put.{put}
use Rattle.base.specs.Said.{answered, gives, refuses}
use Rattle.base.specs.Checks.{Check, checked, answer, first-fail}
use Rattle.base.proofs.Checks.{on_fail, checked-fail, checked-some, checked-none}
use Rattle.base.proofs.Put.{behind}
use Rattle.record_entry.specs.declared.MBRPartitionEntry.{MBRPartitionEntry}
use Rattle.record_entry.specs.Entry.{no_entry}
use Rattle.extract.specs.Disk.{Store}
use Rattle.table.specs.declared.LogicalPartition.{LogicalPartition}
use Rattle.chain.specs.Links.{write}
use Rattle.careful_stores.specs.Stored.{store_bytes, stores_bytes, moved, store_length, room_needed}
use Rattle.careful_stores.specs.Linked.{link_behind, linked_store}
use Rattle.careful_stores.proofs.ebr_store.Laws.{link-none, write-linked}
use Rattle.careful_stores.specs.Behind.{Tells, stores_between}
use Rattle.careful_stores.specs.declared.push_writer.Between.{Between}

-- one store, and two
pub one_store : (d : List ℕ) (s : Store) → put d 0 (store_bytes s) ≡ put d 0 (stores_bytes (s ∷ []))
unfolding stores_bytes
one_store d s = ap (put d 0) (sym (append-nil (store_bytes s)))

pub two-stores : (d d₁ d₂ : List ℕ) (s u : Store) → length (store_bytes s) ≡ store_length → room_needed ≤ length d → d₁ ≡ put d 0 (store_bytes s) → d₂ ≡ put d₁ store_length (store_bytes u)
    → d₂ ≡ put d 0 (stores_bytes (s ∷ u ∷ []))
unfolding stores_bytes
two-stores d d₁ d₂ s u n h e f =
    behind d d₁ d₂ 0 store_length (store_bytes s) (store_bytes u) n (omega arith) e f ∙ ap (λ (l : List ℕ). put d 0 (store_bytes s ++ l)) (sym (append-nil (store_bytes u)))

-- what is written for a first partition, and for one among others
module _ (d : List ℕ) (e : MBRPartitionEntry) (b : Between) (new : LogicalPartition) where
  pub first-stored : (d₁ : List ℕ) (first : LogicalPartition) (end : MBRPartitionEntry) → end ≡ no_entry → b.earlier ≡ None → first ≡ moved e new → d₁ ≡ put d 0 (store_bytes (linked_store first end))
      → d₁ ≡ put d 0 (stores_bytes (stores_between e b new))
  first-stored d₁ first end n z m w =
      let ends : linked_store (moved e new) end ≡ write e (moved e new) None = ap (linked_store (moved e new)) (n ∙ sym (link-none e)) ∙ sym (write-linked e (moved e new) None) in
      rw z (w ∙ ap (λ (s : Store). put d 0 (store_bytes s)) (ap (λ (l : LogicalPartition). linked_store l end) m ∙ ends) ∙ one_store d (write e (moved e new) None))

  pub later-stored : (d₁ d₂ : List ℕ) (l : LogicalPartition) (link : MBRPartitionEntry) → b.earlier ≡ Some l → link ≡ link_behind e (Some new) → room_needed ≤ length d
      → (d₁ ≡ put d 0 (store_bytes (linked_store new b.link))) × (length (store_bytes (linked_store new b.link)) ≡ store_length)
      → d₂ ≡ put d₁ store_length (store_bytes (linked_store l link))
      → d₂ ≡ put d 0 (stores_bytes (stores_between e b new))
  later-stored d₁ d₂ l link z k h w v =
      rw z
      (two-stores d d₁ d₂ (linked_store new b.link) (linked_store l link) w.1 h w.0 v
      ∙ ap (λ (x : MBRPartitionEntry). put d 0 (stores_bytes (linked_store new b.link ∷ linked_store l x ∷ []))) k)

-- the first refusal decides
checked-same : {A : Type 0} (cs ds : List Check) (deny : ℕ → A) (grant : A) → first-fail cs ≡ first-fail ds → checked cs deny grant ≡ checked ds deny grant
checked-same cs ds deny grant e = checked-fail cs deny grant ∙ ap (λ (o : Option ℕ). on_fail o deny grant) e ∙ sym (checked-fail ds deny grant)

pub tells-passed : (r : Result ℕ Refusal) (old : List ℕ) (cs : List Check) (ss : List Store) (k : ℕ) → answered r ≡ refuses k → first-fail cs ≡ Some k → Tells r old old cs ss
tells-passed r old cs ss k q e =
    (q ∙ sym (checked-some cs refuses (gives (length ss)) k e), sym (checked-some cs (λ j. old) (put old 0 (stores_bytes ss)) k e))

pub tells-stored : (r : ℕ) (old new : List ℕ) (cs : List Check) (ss : List Store) → first-fail cs ≡ None → r ≡ length ss → new ≡ put old 0 (stores_bytes ss)
    → Tells (Ok r) old new cs ss
tells-stored r old new cs ss e s w =
    (ap gives s ∙ sym (checked-none cs refuses (gives (length ss)) e), w ∙ sym (checked-none cs (λ j. old) (put old 0 (stores_bytes ss)) e))

pub tells-same : (r : Result ℕ Refusal) (old new : List ℕ) (cs ds : List Check) (ss us : List Store) → first-fail cs ≡ first-fail ds → ss ≡ us → Tells r old new ds us → Tells r old new cs ss
tells-same r old new cs ds ss us e f t = (
  t.0 ∙ ap (λ (z : List Store). answer ds (length z)) (sym f) ∙ sym (checked-same cs ds refuses (gives (length ss)) e),
  t.1 ∙ ap (λ (z : List Store). checked ds (λ j. old) (put old 0 (stores_bytes z))) (sym f) ∙ sym (checked-same cs ds (λ j. old) (put old 0 (stores_bytes ss)) e),
)
