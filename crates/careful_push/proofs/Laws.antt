-- What a careful change answers: refusals in their order, else its stores. Assumes nothing.
use Rattle.base.specs.declared.Refusal.{Refusal}
use mathlib.Core.Path.{◌≡◌, refl, ap, sym, subst, ◌∙◌}
use mathlib.Core.Bool.{Bool, true, false, not}
use Rattle.std.specs.Prelude.{Option, None, Some, Result}
use mathlib.Core.List.{List, [], ◌∷◌, ◌++◌}
use Prim.Native.Nat.{ℕ, ◌+◌, ◌*◌, ◌≤◌, ◌<◌}
use native.Mathlib.Omega.{arith}
use lib.Dec.{leb}
use lib.ListN.{length}
use borrow.Author.Tests.{leb-true}
use Rattle.base.specs.Pick.{pick}
use Rattle.base.specs.Said.{answered, refuses, failure}
use Rattle.base.specs.Checks.{Check, ◌!◌, checked, first-fail, AllHold}
use Rattle.base.proofs.Checks.{checked-none, checked-append, append-fails, append-holds, none-fails, hold-right}
use Rattle.careful.specs.Stores.{push_stores}
use Rattle.record_entry.specs.declared.MBRPartitionEntry.{MBRPartitionEntry}
use Rattle.record_entry.specs.Entry.{used, extended, end_of}
use Rattle.table.specs.declared.LogicalPartition.{LogicalPartition}
use Rattle.table.specs.declared.MBR.{MBR}
use Rattle.chain.specs.Facts.{at}
use Rattle.read_table.specs.Read.{read_says, table_for}
use Rattle.table_push.specs.declared.request.Request.{Request}
use Rattle.table_push.specs.Push.{place_of, size_of, fresh, new_logical, later_than, round_checks, place_checks, push_checks}
use Rattle.table_address.specs.Address.{complete, addressed}
use Rattle.sound.specs.Sound.{Contents, contents_of, extended_entry, area_end, end, soundb}
use Rattle.careful.specs.Careful.{room_needed, too_wide, ask_checks, askable, space_checks, push_refusals, push_change, careful_push_says}
use Rattle.careful.specs.Output.{out_after, stores_counted}
use Rattle.careful.proofs.Changing.{read-refused, read_told}
use Rattle.careful.proofs.Accepted.{place-hold, align-hold}
use Rattle.sound.proofs.Good.{sized-end}
use Rattle.careful_stores.specs.declared.push_writer.Between.{Between}
use Rattle.careful_stores.specs.Order.{order_at, earlier, earlier_one, last_listed, later_one, between}
use Rattle.careful_stores.specs.Linked.{link_behind, linked_store}
use Rattle.careful_stores.specs.Behind.{Tells, stores_between}
use Rattle.careful_stores.specs.Space.{space_between}
use Rattle.careful_stores.proofs.ebr_store.Laws.{write-linked}
use Rattle.chain.specs.Links.{write}
use Rattle.extract.specs.Disk.{Store}
use Rattle.careful_push.specs.Change.{space_among, checks_among}
use Rattle.careful_stores.proofs.push_writer.Laws.{tells-same}

-- what a careful push says of an extract
module _ (x : List ℕ) (room : ℕ) where
  pub push-unread : (q : Request) (old : List ℕ) (k : ℕ) → failure (read_says x) ≡ Some k
      → (refuses k ≡ stores_counted (careful_push_says x room q)) × (old ≡ out_after old (careful_push_says x room q))
  unfolding careful_push_says
  push-unread q old k h = read-refused (push_refusals room q) (push_change q) (read_says x) old k h

  pub push-read : (q : Request) (r : Result ℕ Refusal) (old new : List ℕ) (t : MBR) → failure (read_says x) ≡ None → t ≡ table_for (read_says x)
      → Tells r old new (push_refusals room q (contents_of t)) (push_change q (contents_of t)).stores
      → (answered r ≡ stores_counted (careful_push_says x room q)) × (new ≡ out_after old (careful_push_says x room q))
  unfolding careful_push_says
  push-read q r old new t h e w =
      read_told (push_refusals room q) (push_change q) (read_says x) r old new h
      (subst (λ (m : MBR). Tells r old new (push_refusals room q (contents_of m)) (push_change q (contents_of m)).stores) e w)

-- the new partition's place and end
module _ (later : Bool) (q : Request) where
  new-at : at (new_logical later q) ≡ place_of q
  unfolding new_logical addressed fresh
  new-at = go (complete q.geometry)
    where
      go : (b : Bool) → at (pick b (addressed q.geometry (fresh later q)) (fresh later q)) ≡ place_of q
      go true = refl
      go false = refl

  new-end : q.align < size_of q → end (new_logical later q) ≡ place_of q + size_of q
  unfolding new_logical addressed fresh
  new-end h = sized-end (new_logical later q) (sized (complete q.geometry)) ∙ ends (complete q.geometry)
    where
      sized : (b : Bool) → 1 ≤ (pick b (addressed q.geometry (fresh later q)) (fresh later q)).partition.sectors
      sized true = omega arith
      sized false = omega arith

      ends : (b : Bool) → end_of (pick b (addressed q.geometry (fresh later q)) (fresh later q)).partition ≡ place_of q + size_of q
      ends true = omega arith
      ends false = omega arith

size : (q : Request) (e : MBRPartitionEntry) (n : ℕ) → AllHold (push_checks q (Some e) n) → q.align < size_of q
unfolding place_checks
size q e n a =
    let p : AllHold (place_checks q e) = hold-right ((8 ! true) ∷ round_checks q) (place_checks q e) (place-hold q e n a) in
    let b : 2 * q.align ≤ size_of q = leb-true (2 * q.align) (size_of q) p.1.0 in
    omega (arith, align-hold q e n a)

-- push's refusals come before them
module _ (room : ℕ) (q : Request) (e : MBRPartitionEntry) (n : ℕ) (ls : List LogicalPartition) where
  pub among-fails : (k : ℕ) → first-fail (push_checks q (Some e) n) ≡ Some k → first-fail (checks_among room q e n ls) ≡ Some k
  among-fails k h = append-fails (push_checks q (Some e) n) (space_among room q e ls) k Some None h

  module _ (new : LogicalPartition) (h : first-fail (push_checks q (Some e) n) ≡ None) (m : new ≡ new_logical (later_than n) q) where
    holds : AllHold (push_checks q (Some e) n)
    holds = none-fails (push_checks q (Some e) n) h

    at_place : at new ≡ place_of q
    at_place = ap at m ∙ new-at (later_than n) q

    at-end : end new ≡ place_of q + size_of q
    at-end = ap end m ∙ new-end (later_than n) q (size q e n holds)

    pub among-holds : (b : Between) → b ≡ between e (at new) ls → first-fail (checks_among room q e n ls) ≡ first-fail (space_between e b new room)
    unfolding between
    among-holds b k =
        append-holds (push_checks q (Some e) n) (space_among room q e ls) Some None holds
        ∙ rw (k, at-end, at_place)

    pub among-stores : (b : Between) → b ≡ between e (at new) ls → push_stores e (place_of q) ls (new_logical (later_than n) q) ≡ stores_between e b new
    unfolding between push_stores order_at earlier earlier_one last_listed
    among-stores b k =
        ap (push_stores e (place_of q) ls) (sym m) ∙ go ls
        ∙ ap (λ (p : ℕ). stores_between e (between e p ls) new) (sym at_place) ∙ ap (λ (z : Between). stores_between e z new) (sym k)
      where
        go : (ls : List LogicalPartition) → push_stores e (place_of q) ls new ≡ stores_between e (between e (place_of q) ls) new
        go [] = refl
        go (l ∷ ls) =
            ap (λ (s : Store). s ∷ write e (earlier (place_of q) (l ∷ ls)) (Some new) ∷ []) (write-linked e new (later_one (place_of q) (l ∷ ls)))
            ∙ ap (λ (s : Store). linked_store new (link_behind e (later_one (place_of q) (l ∷ ls))) ∷ s ∷ []) (write-linked e (earlier (place_of q) (l ∷ ls)) (Some new))

space-at : (room : ℕ) (q : Request) (t : Contents) (e : MBRPartitionEntry) → extended_entry t ≡ Some e
    → space_checks q t ++ (19 ! leb room_needed room) ∷ [] ≡ space_among room q e t.logicals
unfolding space_checks area_end
space-at room q t e x = rw x

-- what is asked for is refused by 23, or by none of these checks
ask-says : (q : Request) → first-fail (ask_checks q) ≡ pick (askable q) None (Some 23)
unfolding ask_checks
ask-says q = go (used q.sys) (not (extended q.sys)) (not (too_wide q.geometry))
  where
    go : (a b c : Bool) → ◌≡◌ {A = Option ℕ} (pick a (pick b (pick c None (Some 23)) (Some 23)) (Some 23)) (pick (pick a (pick b (pick c true false) false) false) None (Some 23))
    go true true true = refl
    go true true false = refl
    go true false c = refl
    go false b c = refl

pub ask_holds : (q : Request) → askable q ≡ true → first-fail (ask_checks q) ≡ None
ask_holds q e = ask-says q ∙ ap (λ (b : Bool). pick b None (Some 23)) e

-- 20, 23 and 8 of a careful push, and what is left
module _ (room : ℕ) (q : Request) (t : Contents) where
  abbrev asks : List Check
  asks = (20 ! soundb t) ∷ ask_checks q

  abbrev pushes : List Check
  pushes = push_checks q (extended_entry t) (length t.logicals)

  abbrev room-check : List Check
  room-check = (19 ! leb room_needed room) ∷ []

  push-parts : first-fail (push_refusals room q t) ≡ checked asks Some (checked pushes Some (checked (space_checks q t) Some (first-fail room-check)))
  unfolding push_refusals
  push-parts =
      checked-append (asks ++ pushes ++ space_checks q t) room-check Some None
      ∙ checked-append (asks ++ pushes) (space_checks q t) Some (first-fail room-check)
      ∙ checked-append asks pushes Some (checked (space_checks q t) Some (first-fail room-check))

  module _ (h : soundb t ≡ true) (a : first-fail (ask_checks q) ≡ None) where
    push-asked : first-fail (push_refusals room q t) ≡ checked pushes Some (checked (space_checks q t) Some (first-fail room-check))
    push-asked = push-parts ∙ rw h (checked-none (ask_checks q) Some (checked pushes Some (checked (space_checks q t) Some (first-fail room-check))) a)

    push-among : (e : MBRPartitionEntry) (n : ℕ) → extended_entry t ≡ Some e → length t.logicals ≡ n
        → first-fail (push_refusals room q t) ≡ first-fail (checks_among room q e n t.logicals)
    push-among e n x l =
        push-asked
        ∙ ap (λ (k : Option ℕ). checked pushes Some k) (sym (checked-append (space_checks q t) room-check Some None) ∙ ap first-fail (space-at room q t e x))
        ∙ sym (checked-append pushes (space_among room q e t.logicals) Some None)
        ∙ rw (x, l)

  push-stores : (e : MBRPartitionEntry) (n : ℕ) → extended_entry t ≡ Some e → length t.logicals ≡ n
      → (push_change q t).stores ≡ push_stores e (place_of q) t.logicals (new_logical (later_than n) q)
  unfolding push_change
  push-stores e n x l = rw (x, l)

  pub push-told : soundb t ≡ true → first-fail (ask_checks q) ≡ None → (e : MBRPartitionEntry) (n : ℕ) → extended_entry t ≡ Some e → length t.logicals ≡ n
      → (r : Result ℕ Refusal) (old new : List ℕ) → Tells r old new (checks_among room q e n t.logicals) (push_stores e (place_of q) t.logicals (new_logical (later_than n) q))
      → Tells r old new (push_refusals room q t) (push_change q t).stores
  push-told h a e n x l r old new w =
      tells-same r old new (push_refusals room q t) (checks_among room q e n t.logicals) (push_change q t).stores (push_stores e (place_of q) t.logicals (new_logical (later_than n) q))
      (push-among h a e n x l) (push-stores e n x l) w
