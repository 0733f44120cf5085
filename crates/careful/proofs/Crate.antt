-- Where a careful change is accepted, the crate's own push or removal is, and its table under the first-place rule is the table after. Assumes nothing.
use mathlib.Core.Path.{◌≡◌, refl, ap, sym, ◌∙◌}
use Rattle.std.specs.Prelude.{Option}
use mathlib.Core.Bool.{true}
use mathlib.Core.List.{List, [], ◌∷◌, ◌++◌}
use Prim.Native.Nat.{ℕ, ◌+◌, ◌-◌, ◌≤◌, ◌<◌}
use native.Mathlib.Omega.{arith}
use lib.Dec.{ltb, leb}
use lib.ListN.{length}
use borrow.Author.Tests.{ltb-true, le-leb}
use Rattle.base.specs.Said.{gives, refuses}
use Rattle.base.specs.Checks.{Check, ◌!◌, AllHold}
use Rattle.base.proofs.Checks.{hold-left, hold-right, all_hold, checked-none}
use Rattle.chain.proofs.Slots.{holds-few}
use Rattle.table.proofs.Laws.{slots_length, slots-taken}
use Rattle.record_entry.specs.declared.MBRPartitionEntry.{MBRPartitionEntry}
use Rattle.extract.specs.Disk.{Disk}
use Rattle.table.specs.declared.LogicalPartition.{LogicalPartition}
use Rattle.table.specs.declared.MBR.{MBR}
use Rattle.table.specs.Table.{most, logicals}
use Rattle.chain.specs.Facts.{seen}
use Rattle.read_table.specs.Read.{Table, table_of}
use Rattle.table_push.specs.declared.request.Request.{Request}
use Rattle.table_push.specs.Push.{is_some, or_none, later_than, round_checks, place_checks, end_checks, geometry_checks, push_checks, pushed, table_push_checks, pushed_to, push_says, push_table}
use Rattle.table_remove.specs.Remove.{remove_checks, without, removed_table}
use Rattle.table_remove.proofs.without.Laws.{without-logicals}
use Rattle.table_push.proofs.Laws.{logicals-pushed}
use Rattle.sound.specs.Sound.{Contents, contents_of, extended_entry, soundb}
use Rattle.careful.specs.Stores.{first_in_place, left_out, last_moved}
use Rattle.careful.specs.Careful.{contents, relist, extended_area, room_needed, ask_checks, order_of, space_checks, push_refusals, push_change, remove_refusals, remove_change, as_asked, in_first_place, with_last_at}
use Rattle.careful.specs.Demand3.{Pushes, Removes, after_push, after_removal}
use Rattle.careful.proofs.Shown.{Shows}

-- what a table that was read holds
pub contents-of : (t : Table) → contents_of (table_of t) ≡ contents t
unfolding table_of
contents-of t = λ i. record { width = t.width; size = t.size; header = t.header; logicals = slots-taken t.logicals i }

-- push's last refusal
last-hold : (q : Request) (o : Option MBRPartitionEntry) (n : ℕ) → AllHold (push_checks q o n) → n < most
unfolding push_checks
last-hold q o n h =
    let cs : List Check = (8 ! is_some o) ∷ round_checks q ++ place_checks q (or_none o) ++ end_checks (later_than n) q (or_none o) ++ geometry_checks (later_than n) q in
    ltb-true n most (hold-right cs ((6 ! ltb n most) ∷ []) h).0

placed-list : (t : Contents) (ls : List LogicalPartition) → in_first_place (relist t ls) ≡ relist t (first_in_place (extended_area t) ls)
unfolding in_first_place relist
placed-list t ls = refl

ordered-list : (k : ℕ) (t : Contents) (ls : List LogicalPartition) → in_first_place (with_last_at k (relist t ls)) ≡ relist t (first_in_place (extended_area t) (last_moved k ls))
unfolding in_first_place with_last_at relist
ordered-list k t ls = refl

module _ (d : Disk) (t : Table) (r : Shows d (contents t)) where
  abbrev ls : List LogicalPartition
  ls = t.logicals

  few : length ls ≤ most
  few = holds-few (seen d) (extended_entry (contents t)) ls r.holds

  module _ (q : Request) (h : AllHold (push_checks q (extended_entry (contents t)) (length ls))) where
    abbrev given : MBR
    given = as_asked (table_of t) q

    own-checks : AllHold (table_push_checks given q)
    unfolding table_push_checks as_asked table_of
    own-checks = (le-leb (length ls) most few, h)

    push-number : push_says given q.sys q.start q.sectors ≡ gives (length ls + 5)
    unfolding push_says as_asked table_of
    push-number = checked-none (table_push_checks given q) refuses (gives (length ls + 5)) (all_hold (table_push_checks given q) own-checks)

    push-accepts : push_table given q.sys q.start q.sectors ≡ pushed_to given q
    unfolding push_table as_asked
    push-accepts = checked-none (table_push_checks given q) (λ k. given) (pushed_to given q) (all_hold (table_push_checks given q) own-checks)

    push-contents : contents_of (pushed_to given q) ≡ relist (contents t) (pushed q ls)
    unfolding as_asked table_of relist pushed_to
    push-contents =
        let n : length ls < most = last-hold q (extended_entry (contents t)) (length ls) h in
        let e : logicals (pushed_to given q) ≡ pushed q ls =
        logicals-pushed given q (omega (arith, slots_length ls few)) ∙ ap (pushed q) (slots-taken ls) in
        λ i. record { width = t.width; size = t.size; header = t.header; logicals = e i }

  module _ (room : ℕ) (q : Request) (h : AllHold (push_refusals room q (contents t))) where
    pushes-hold : AllHold (push_checks q (extended_entry (contents t)) (length ls))
    unfolding push_refusals
    pushes-hold =
        let asks : List Check = (20 ! soundb (contents t)) ∷ ask_checks q in
        let pushes : List Check = push_checks q (extended_entry (contents t)) (length ls) in
        let behind : List Check = (19 ! leb room_needed room) ∷ [] in
        hold-right asks pushes (hold-left (asks ++ pushes) (space_checks q (contents t)) (hold-left (asks ++ pushes ++ space_checks q (contents t)) behind h))

    pub push-own : Pushes q t (push_table (as_asked (table_of t) q) q.sys q.start q.sectors)
    push-own = record { number = push-number q pushes-hold; table = refl }

    pub push-same : (push_change q (contents t)).result ≡ after_push q t (push_table (as_asked (table_of t) q) q.sys q.start q.sectors)
    unfolding push_change
    push-same =
        let k : ℕ = order_of q (contents t) in
        sym (ap (λ (c : Contents). in_first_place (with_last_at k c)) (ap contents_of (push-accepts q pushes-hold) ∙ push-contents q pushes-hold) ∙ ordered-list k (contents t) (pushed q ls))

  module _ (room n : ℕ) (h : AllHold (remove_refusals room n (contents t))) where
    there : (leb 5 n ≡ true) × (ltb (n - 5) (length ls) ≡ true)
    unfolding remove_refusals
    there = (h.1.0, h.1.1.0)

    remove-hold : AllHold (remove_checks (table_of t) n)
    unfolding table_of
    remove-hold = (le-leb (length ls) most few, (there.0, (there.1, tt)))

    remove-accepts : removed_table (table_of t) n ≡ without (table_of t) (n - 5)
    remove-accepts = checked-none (remove_checks (table_of t) n) (λ k. table_of t) (without (table_of t) (n - 5)) (all_hold (remove_checks (table_of t) n) remove-hold)

    remove-contents : contents_of (without (table_of t) (n - 5)) ≡ relist (contents t) (left_out ls (n - 5))
    unfolding table_of relist left_out
    remove-contents =
        let e : logicals (without (table_of t) (n - 5)) ≡ left_out ls (n - 5) =
        without-logicals (table_of t) (n - 5) (ltb-true (n - 5) (length ls) there.1) (omega (arith, slots_length ls few, few)) ∙ ap (λ (z : List LogicalPartition). left_out z (n - 5)) (slots-taken ls) in
        λ i. record { width = t.width; size = t.size; header = t.header; logicals = e i }

    pub remove-own : Removes n t (removed_table (table_of t) n)
    remove-own = record { unrefused = all_hold (remove_checks (table_of t) n) remove-hold; table = refl }

    pub remove-same : (remove_change n (contents t)).result ≡ after_removal t (removed_table (table_of t) n)
    unfolding remove_change
    remove-same = sym (ap in_first_place (ap contents_of remove-accepts ∙ remove-contents) ∙ placed-list (contents t) (left_out ls (n - 5)))
