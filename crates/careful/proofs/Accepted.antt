-- An accepted careful push, and an accepted careful removal, is safe at every stop. Assumes nothing.
use mathlib.Core.Path.{◌≡◌, refl, ap, sym, subst, ◌∙◌}
use Rattle.std.specs.Prelude.{Option, None, Some, unwrap_or}
use mathlib.Core.Bool.{true, false}
use mathlib.Core.List.{List, [], ◌∷◌, ◌++◌, append_assoc}
use Prim.Native.Nat.{ℕ, zero, suc, ◌+◌, ◌-◌, ◌*◌, ◌^◌, ◌≤◌, ◌<◌}
use native.Mathlib.Nat.{suc-add}
use native.Mathlib.Omega.{arith}
use lib.Dec.{ltb, leb}
use lib.ListN.{length, take, drop, length-append, take-append-drop}
use borrow.Author.Tests.{ltb-true, leb-true, lt-ltb, not-true}
use Rattle.base.specs.Checks.{Check, ◌!◌, AllHold}
use Rattle.base.specs.Said.{gives}
use Rattle.base.specs.Row.{next}
use Rattle.base.proofs.Checks.{hold-left, hold-right}
use Rattle.record_entry.specs.declared.MBRPartitionEntry.{MBRPartitionEntry}
use Rattle.record_entry.specs.Entry.{no_entry, extended, end_of}
use Rattle.extract.specs.Disk.{Disk, Store}
use Rattle.table.specs.declared.LogicalPartition.{LogicalPartition}
use Rattle.table.specs.Table.{most}
use Rattle.chain.specs.Chain.{first_link}
use Rattle.chain.specs.Facts.{seen, at, link_in, Holds}
use Rattle.table_push.specs.declared.request.Request.{Request}
use Rattle.table_push.specs.Push.{place_of, size_of, later_than, new_logical, round_checks, place_checks, end_checks, geometry_checks, push_checks, pushed}
use Rattle.sound.specs.Sound.{Contents, extended_entry, area_end, end, bound, Sound, soundb}
use Rattle.sound.proofs.Good.{Good}
use Rattle.sound.proofs.Test.{is-sound}
use Rattle.chain.specs.Links.{write}
use Rattle.careful_stores.specs.Space.{end_behind}
use Rattle.careful_stores.specs.Order.{up_to, order_at, earlier, earlier_one, behind_at, later_one}
use Rattle.careful.specs.Stores.{moved, first_in_place, left_out, last_logical, last_listed, last_moved, push_stores, skip_store, remove_store}
use Rattle.careful.specs.Careful.{relist, room_needed, ask_checks, space_checks, push_refusals, push_change, remove_refusals, remove_change}
use Rattle.careful.specs.Demand3.{Whole, contents_on, Safe}
use Rattle.careful.proofs.Shown.{Shows, contents→shows, Heads, holds-heads}
use Rattle.careful.proofs.Split.{Split, split}
use Rattle.careful.proofs.Order.{init_of, init-joined, cut_at, moved-last}
use Rattle.careful.proofs.Push.{Room, push-safe}
use Rattle.careful.proofs.Remove.{remove-safe, remove-first-safe, remove-only-safe, push-first-safe}
use Rattle.careful.proofs.New.{Asked, NewOk, Fits, new_ok, new-zone, end-new, new-good, new-writable, new-span, new-linkable}

-- a first one that stands in the first place already
moved_same : (e : MBRPartitionEntry) (l : LogicalPartition) → at l ≡ e.starting_lba → link_in l ≡ first_link e → moved e l ≡ l
unfolding moved link_in
moved_same e l p q = λ i. record {
  partition = l.partition;
  absolute_ebr_lba = record { 0 = sym p i };
  ebr_sectors = (sym q i).sectors;
  ebr_first_chs = (sym q i).first;
  ebr_last_chs = (sym q i).last;
  kept = l.kept;
}

pub first-same : (e : MBRPartitionEntry) (l : LogicalPartition) (ls : List LogicalPartition) → Heads e (l ∷ ls) → (ms : List LogicalPartition) → first_in_place e (l ∷ ms) ≡ l ∷ ms
unfolding first_in_place
first-same e l ls h ms = ap (λ (x : LogicalPartition). x ∷ ms) (moved_same e l h.0 h.1)

heads-of : (d : Disk) (t : Contents) (e : MBRPartitionEntry) (l : LogicalPartition) (ls : List LogicalPartition) → Shows d t → extended_entry t ≡ Some e → t.logicals ≡ l ∷ ls → Heads e (l ∷ ls)
heads-of d t e l ls r x z =
    let h : Holds (seen d) (Some e) (l ∷ ls) = rw z at (rw x at r.holds) in
    holds-heads (seen d) e l ls h

-- the parts of push's list
module _ (q : Request) (e : MBRPartitionEntry) (n : ℕ) (h : AllHold (push_checks q (Some e) n)) where
  abbrev first : List Check
  first = (8 ! true) ∷ round_checks q

  abbrev up_to_place : List Check
  up_to_place = first ++ place_checks q e

  abbrev up_to_end : List Check
  up_to_end = up_to_place ++ end_checks (later_than n) q e

  abbrev up_to_chs : List Check
  up_to_chs = up_to_end ++ geometry_checks (later_than n) q

  whole : AllHold (up_to_chs ++ (6 ! ltb n most) ∷ [])
  unfolding push_checks
  whole = h

  chs-hold : AllHold up_to_chs
  chs-hold = hold-left up_to_chs ((6 ! ltb n most) ∷ []) whole

  pub place-hold : AllHold up_to_place
  place-hold = hold-left up_to_place (end_checks (later_than n) q e) (hold-left up_to_end (geometry_checks (later_than n) q) chs-hold)

  pub few-hold : n < most
  few-hold = ltb-true n most (hold-right up_to_chs ((6 ! ltb n most) ∷ []) whole).0

  pub geometry-hold : AllHold (geometry_checks (later_than n) q)
  geometry-hold = hold-right up_to_end (geometry_checks (later_than n) q) chs-hold

  pub align-hold : 0 < q.align
  unfolding round_checks
  align-hold = ltb-true 0 q.align (hold-left first (place_checks q e) place-hold).1.1.0

  pub fits-of : AllHold (ask_checks q) → place_of q + size_of q ≤ end_of e → Fits q e
  unfolding place_checks ask_checks
  fits-of a high =
      let p : AllHold (place_checks q e) = hold-right first (place_checks q e) place-hold in
      record {
        align = align-hold;
        size = leb-true (2 * q.align) (size_of q) p.1.0;
        low = leb-true e.starting_lba (place_of q) p.1.1.1.0;
        high = high;
        used = a.0;
        plain = not-true (extended q.sys) a.1.0;
      }

-- push
module _ (d : Disk) (t : Contents) (whole : Whole d) (small : t.size < 2 ^ 32) (now : contents_on d ≡ gives t) (r : Shows d t) (s : Sound t) where
  module _ (q : Request) (asked : Asked q) (a : AllHold (ask_checks q)) where
    abbrev Pushed : MBRPartitionEntry → List LogicalPartition → Type 0
    Pushed e ls =
        Safe d t
        (record {
          stores = push_stores e (place_of q) ls (new_logical (later_than (length ls)) q);
          result = relist t (first_in_place e (last_moved (order_at (place_of q) ls) (pushed q ls)));
        })

    later-true : (l : LogicalPartition) (ls : List LogicalPartition) → later_than (length (l ∷ ls)) ≡ true
    later-true l ls = lt-ltb 0 (length (l ∷ ls)) (omega arith)

    into-empty : (e : MBRPartitionEntry) → extended_entry t ≡ Some e → t.logicals ≡ [] → AllHold (push_checks q (Some e) 0) → place_of q + size_of q ≤ end_of e → Pushed e []
    unfolding push_stores pushed first_in_place order_at
    into-empty e x z h high =
        let f : Fits q e = fits-of q e 0 h a high in
        let new : LogicalPartition = new_logical false q in
        let o : NewOk false q new = new_ok false q asked (geometry-hold q e 0 h) in
        let safe : Safe d t (record { stores = write e (moved e new) None ∷ []; result = relist t (first_in_place e (new ∷ [])) }) =
        push-first-safe d t e new small now r s x z (omega (arith, o.place, f.low)) (new-zone false q e new asked f o) (new-good false q e new asked f o)
        (new-writable false q e new asked f o) in
        subst (λ (ns : List LogicalPartition). Safe d t (record { stores = write e (moved e new) None ∷ []; result = relist t (first_in_place e ns) })) (sym (moved-last 0 [] new)) safe

    into-chain : (e : MBRPartitionEntry) (l : LogicalPartition) (ls : List LogicalPartition) → extended_entry t ≡ Some e → t.logicals ≡ l ∷ ls
        → AllHold (push_checks q (Some e) (length (l ∷ ls))) → place_of q + size_of q ≤ end_of e → end (earlier (place_of q) (l ∷ ls)) ≤ place_of q
        → place_of q + size_of q ≤ bound (end_of e) (later_one (place_of q) (l ∷ ls)) → Pushed e (l ∷ ls)
    unfolding push_stores pushed order_at earlier behind_at last_listed
    into-chain e l ls x z h high low up =
        let n : ℕ = length (l ∷ ls) in
        let j : ℕ = up_to (place_of q) ls in
        let xs : List LogicalPartition = take j ls in
        let ms : List LogicalPartition = drop j ls in
        let b : LogicalPartition = last_logical l xs in
        let new : LogicalPartition = new_logical true q in
        let f : Fits q e = fits-of q e n h a high in
        let g : AllHold (geometry_checks true q) = rw (later-true l ls) at (geometry-hold q e n h) in
        let o : NewOk true q new = new_ok true q asked g in
        let w : t.logicals ≡ init_of l xs ++ b ∷ ms = z ∙ cut_at l ls j in
        let c : Split d e t.size (init_of l xs) b ms = split d t e (init_of l xs) b ms whole r s x w in
        let k : Good (end_of e) new None = new-good true q e new asked f o in
        let long : length ls ≡ length xs + length ms = ap length (sym (take-append-drop j ls)) ∙ length-append xs ms in
        let m : Room e (init_of l xs) b ms new = record {
          room = omega (arith, o.place, low);
          good = record { own = k.own; place = k.place; ends = omega (arith, end-new true q e new asked f o, up); linked = c.good.linked };
          link = new-span q e new asked f o;
          writable = new-writable true q e new asked f o;
          linkable = new-linkable q e new asked f o;
          few = rw (init-joined l xs (new ∷ ms)) (omega (arith, few-hold q e n h, long, length-append (l ∷ xs) (new ∷ ms)));
        } in
        let safe = push-safe d t e (init_of l xs) b ms new small now r s x c w m in
        let same : init_of l xs ++ b ∷ new ∷ ms ≡ first_in_place e (last_moved (suc j) ((l ∷ ls) ++ new ∷ [])) =
        init-joined l xs (new ∷ ms)
        ∙ sym (ap (first_in_place e) (moved-last (suc j) (l ∷ ls) new) ∙ first-same e l ls (heads-of d t e l ls r x z) (xs ++ new ∷ ms)) in
        rw (later-true l ls)
        (subst (λ (ns : List LogicalPartition). Safe d t (record { stores = write e new (next ms None) ∷ write e b (Some new) ∷ []; result = relist t ns })) same safe)

    into : (o : Option MBRPartitionEntry) → extended_entry t ≡ o → (ls : List LogicalPartition) → t.logicals ≡ ls → AllHold (push_checks q o (length ls))
        → leb (place_of q + size_of q) (area_end o) ≡ true → leb (end_behind (earlier_one (place_of q) ls)) (place_of q) ≡ true
        → leb (place_of q + size_of q) (bound (area_end o) (later_one (place_of q) ls)) ≡ true → Pushed (unwrap_or o no_entry) ls
    unfolding area_end push_checks earlier earlier_one order_at last_listed
    into None x ls z h c b u = let w : ◌≡◌ {A = ℕ} 0 1 = cc h.0 in absurd (omega arith)
    into (Some e) x [] z h c b u = into-empty e x z h (leb-true (place_of q + size_of q) (end_of e) c)
    into (Some e) x (l ∷ ls) z h c b u =
        into-chain e l ls x z h (leb-true (place_of q + size_of q) (end_of e) c) (leb-true (end (earlier (place_of q) (l ∷ ls))) (place_of q) b)
        (leb-true (place_of q + size_of q) (bound (end_of e) (later_one (place_of q) (l ∷ ls))) u)

  -- removal
  Removed : MBRPartitionEntry → List LogicalPartition → Store → List LogicalPartition → Type 0
  Removed e ls one left = Safe d t (record { stores = one ∷ []; result = relist t (ls ++ left) })

  left-suc : (y : LogicalPartition) (ms : List LogicalPartition) (i : ℕ) → left_out (y ∷ ms) (suc i) ≡ y ∷ left_out ms i
  unfolding left_out
  left-suc y ms i = rw (suc-add i 1)

  skip-safe : (e : MBRPartitionEntry) → extended_entry t ≡ Some e → (ls : List LogicalPartition) (l : LogicalPartition) (rest : List LogicalPartition) (i : ℕ) → i < length rest
      → t.logicals ≡ ls ++ l ∷ rest → Removed e ls (skip_store e l rest i) (l ∷ left_out rest i)
  unfolding Removed skip_store left_out
  skip-safe e x ls l [] i h q = absurd (omega arith)
  skip-safe e x ls l (y ∷ ms) zero h q =
      let p : t.logicals ≡ (ls ++ l ∷ []) ++ y ∷ ms = q ∙ sym (append_assoc ls (l ∷ []) (y ∷ ms)) in
      remove-safe d t e ls l y ms small now r s x (split d t e ls l (y ∷ ms) whole r s x q) (split d t e (ls ++ l ∷ []) y ms whole r s x p) q
  skip-safe e x ls l (y ∷ ms) (suc i) h q =
      let p : t.logicals ≡ (ls ++ l ∷ []) ++ y ∷ ms = q ∙ sym (append_assoc ls (l ∷ []) (y ∷ ms)) in
      let k : Removed e (ls ++ l ∷ []) (skip_store e y ms i) (y ∷ left_out ms i) = skip-safe e x (ls ++ l ∷ []) y ms i (omega arith) p in
      let same : (ls ++ l ∷ []) ++ y ∷ left_out ms i ≡ ls ++ l ∷ left_out (y ∷ ms) (suc i) =
      append_assoc ls (l ∷ []) (y ∷ left_out ms i) ∙ ap (λ (z : List LogicalPartition). ls ++ l ∷ z) (sym (left-suc y ms i)) in
      subst (λ (z : List LogicalPartition). Safe d t (record { stores = skip_store e y ms i ∷ []; result = relist t z })) same k

  drop-safe : (e : MBRPartitionEntry) → extended_entry t ≡ Some e → (ls : List LogicalPartition) (i : ℕ) → i < length ls → t.logicals ≡ ls
      → Safe d t (record { stores = remove_store e ls i ∷ []; result = relist t (first_in_place e (left_out ls i)) })
  unfolding remove_store left_out first_in_place Removed
  drop-safe e x [] i h q = absurd (omega arith)
  drop-safe e x (y ∷ []) zero h q = remove-only-safe d t e y small now r s x q (split d t e [] y [] whole r s x q)
  drop-safe e x (y ∷ m ∷ ms) zero h q =
      remove-first-safe d t e y m ms small now r s x q (split d t e [] y (m ∷ ms) whole r s x q) (split d t e (y ∷ []) m ms whole r s x q)
  drop-safe e x (l ∷ ls) (suc i) h q =
      let same : l ∷ left_out ls i ≡ first_in_place e (left_out (l ∷ ls) (suc i)) =
      sym (first-same e l ls (heads-of d t e l ls r x q) (left_out ls i)) ∙ ap (first_in_place e) (sym (left-suc l ls i)) in
      subst (λ (z : List LogicalPartition). Safe d t (record { stores = skip_store e l ls i ∷ []; result = relist t z })) same (skip-safe e x [] l ls i (omega arith) q)

  out_of : (o : Option MBRPartitionEntry) → extended_entry t ≡ o → (ls : List LogicalPartition) → t.logicals ≡ ls → (i : ℕ) → i < length ls
      → Safe d t (record { stores = remove_store (unwrap_or o no_entry) ls i ∷ []; result = relist t (first_in_place (unwrap_or o no_entry) (left_out ls i)) })
  out_of None x [] z i h = absurd (omega arith)
  out_of None x (l ∷ ls) z i h = absurd (rw z at (rw x at r.holds))
  out_of (Some e) x ls z i h = drop-safe e x ls i h z

-- the two changes
module _ (d : Disk) (t : Contents) (whole : Whole d) (small : t.size < 2 ^ 32) (now : contents_on d ≡ gives t) where
  shows : Shows d t
  shows = contents→shows d t now

  pub push-accepted : (room : ℕ) (q : Request) → Asked q → AllHold (push_refusals room q t) → Safe d t (push_change q t)
  unfolding push_refusals push_change space_checks
  push-accepted room q asked h =
      let asks : List Check = (20 ! soundb t) ∷ ask_checks q in
      let pushes : List Check = push_checks q (extended_entry t) (length t.logicals) in
      let room' : List Check = (19 ! leb room_needed room) ∷ [] in
      let upToSpace : AllHold (asks ++ pushes ++ space_checks q t) = hold-left (asks ++ pushes ++ space_checks q t) room' h in
      let space : AllHold (space_checks q t) = hold-right (asks ++ pushes) (space_checks q t) upToSpace in
      let upToPush : AllHold (asks ++ pushes) = hold-left (asks ++ pushes) (space_checks q t) upToSpace in
      let ask : AllHold asks = hold-left asks pushes upToPush in
      into d t whole small now shows ((is-sound t).to ask.0) q asked ask.1 (extended_entry t) refl t.logicals refl (hold-right asks pushes upToPush) space.0 space.1.0 space.1.1.0

  pub remove-accepted : (room n : ℕ) → AllHold (remove_refusals room n t) → Safe d t (remove_change n t)
  unfolding remove_refusals remove_change
  remove-accepted room n h = out_of d t whole small now shows ((is-sound t).to h.0) (extended_entry t) refl t.logicals refl (n - 5) (ltb-true (n - 5) (length t.logicals) h.1.1.0)
