-- The steps of push and update_chs, as the code takes them. Assumes nothing.
use mathlib.Core.Path.{◌≡◌, ap, sym, ◌∙◌}
use mathlib.Core.Bool.{true, false}
use Rattle.std.specs.Prelude.{None, Some}
use mathlib.Core.List.{List, [], ◌∷◌, ◌++◌, append_assoc}
use Prim.Native.Nat.{ℕ, ◌+◌, ◌*◌, ◌≤◌, ◌<◌, ◌^◌}
use native.Mathlib.Omega.{arith}
use lib.Dec.{ltb}
use lib.ListN.{set}
use borrow.Author.Tests.{ltb-true, leb-true, lt-ltb, le-ltb, le-leb}
use Rattle.base.specs.Said.{gives, refuses}
use Rattle.base.specs.Checks.{Check, ◌!◌, answer, first-fail}
use Rattle.base.proofs.Checks.{on_fail, fail-left, fail-right, none-fails, hold-right, checked-fail, checked-some, checked-none, answer-gives}
use Rattle.record_entry.specs.declared.MBRPartitionEntry.{MBRPartitionEntry}
use Rattle.table.specs.declared.MBR.{MBR}
use Rattle.table.specs.declared.LogicalPartition.{LogicalPartition}
use Rattle.table.specs.Table.{most, extended_in, with_logicals}
use Rattle.table_push.specs.declared.request.EbrPlace.{EbrPlace}
use Rattle.table_push.specs.Push.{Request, geometry_checks, push_checks, table_push_checks, new_logical, request_of, push_says, push_table, pushed_to}
use Rattle.table_push.specs.Asked.{place_of, size_of, round_checks, place_checks, end_checks, later_than}
use Rattle.table_push.specs.RequestAnswers.{at_place}
pub use Rattle.table_address.proofs.Steps.{and-answer, is_zero, not-zero}

-- push's refusals for an extended entry and n partitions, and the new partition
module _ (q : Request) (e : MBRPartitionEntry) (n : ℕ) where
  abbrev R : List Check
  R = (8 ! true) ∷ round_checks q

  abbrev P : List Check
  P = place_checks q e

  abbrev E : List Check
  E = end_checks (later_than n) q e

  abbrev A : List Check
  A = geometry_checks (later_than n) q

  abbrev C : List Check
  C = (6 ! ltb n most) ∷ []

  pub fails-round : (k : ℕ) → first-fail (round_checks q) ≡ Some k → first-fail (push_checks q (Some e) n) ≡ Some k
  unfolding push_checks
  fails-round k r = fail-left (R ++ P ++ E ++ A) C k (fail-left (R ++ P ++ E) A k (fail-left (R ++ P) E k (fail-left R P k r)))

  pub fails-place : (k : ℕ) → first-fail (round_checks q) ≡ None → first-fail P ≡ Some k → first-fail (push_checks q (Some e) n) ≡ Some k
  unfolding push_checks
  fails-place k r p = fail-left (R ++ P ++ E ++ A) C k (fail-left (R ++ P ++ E) A k (fail-left (R ++ P) E k (fail-right R P r ∙ p)))

  place-holds : first-fail (round_checks q) ≡ None → first-fail P ≡ None → first-fail (R ++ P) ≡ None
  place-holds r p = fail-right R P r ∙ p

  pub fails-end : (k : ℕ) → first-fail (round_checks q) ≡ None → first-fail P ≡ None → first-fail E ≡ Some k → first-fail (push_checks q (Some e) n) ≡ Some k
  unfolding push_checks
  fails-end k r p s = fail-left (R ++ P ++ E ++ A) C k (fail-left (R ++ P ++ E) A k (fail-right (R ++ P) E (place-holds r p) ∙ s))

  pub fails-rest : first-fail (round_checks q) ≡ None → first-fail P ≡ None → first-fail E ≡ None → first-fail (push_checks q (Some e) n) ≡ first-fail (A ++ C)
  unfolding push_checks
  fails-rest r p s =
      ap first-fail (append_assoc (R ++ P ++ E) A C) ∙ fail-right (R ++ P ++ E) (A ++ C) (fail-right (R ++ P) E (place-holds r p) ∙ s)

  -- the 25th is refused
  push-few : first-fail (push_checks q (Some e) n) ≡ None → n < most
  unfolding push_checks
  push-few h = ltb-true n most (hold-right (R ++ P ++ E ++ A) C (none-fails (push_checks q (Some e) n) h)).0

  -- at a place that serves, no sum leaves u32
  pub place-fits : first-fail P ≡ None → (place_of q + q.align < 2 ^ 32) × (q.align ≤ size_of q)
  unfolding place_checks
  place-fits p =
      let h = none-fails P p in
      let a : 2 * q.align ≤ size_of q = leb-true _ _ h.1.0 in
      (ltb-true _ _ h.1.1.0, omega arith)

  pub goes-on : first-fail (push_checks q (Some e) n) ≡ first-fail (A ++ C)
      → answer (push_checks q (Some e) n) (new_logical (later_than n) q) ≡ answer (A ++ C) (new_logical (later_than n) q)
  goes-on f =
      let l = gives (new_logical (later_than n) q) in
      checked-fail (push_checks q (Some e) n) refuses l ∙ ap (λ o. on_fail o refuses l) f ∙ sym (checked-fail (A ++ C) refuses l)

  -- the new partition, if no check fails
  pub push-gives : (l : LogicalPartition) → answer (push_checks q (Some e) n) (new_logical (later_than n) q) ≡ gives l
      → (first-fail (push_checks q (Some e) n) ≡ None) × (l ≡ new_logical (later_than n) q) × (n < most)
  push-gives l w =
      let f = answer-gives (push_checks q (Some e) n) (new_logical (later_than n) q) l w in
      (f.0, sym f.1, push-few f.0)

-- the addresses, then the 25th
module _ (q : Request) (n : ℕ) where
  abbrev a : List Check
  a = geometry_checks (later_than n) q

  pub fails-address : (k : ℕ) → first-fail a ≡ Some k → first-fail (a ++ (6 ! ltb n most) ∷ []) ≡ Some k
  fails-address k f = fail-left a ((6 ! ltb n most) ∷ []) k f

  pub fails-count : first-fail a ≡ None → most ≤ n → first-fail (a ++ (6 ! ltb n most) ∷ []) ≡ Some 6
  fails-count f h =
      let g : ltb n most ≡ false = le-ltb n most h in
      fail-right a ((6 ! ltb n most) ∷ []) f ∙ rw g

  pub fails-none : first-fail a ≡ None → n < most → first-fail (a ++ (6 ! ltb n most) ∷ []) ≡ None
  fails-none f h =
      let g : ltb n most ≡ true = lt-ltb n most h in
      fail-right a ((6 ! ltb n most) ∷ []) f ∙ rw g

-- what rounding gives
pub rounds : (q : Request) (p : EbrPlace) → answer (round_checks q) (at_place (place_of q) (size_of q)) ≡ gives p
    → (first-fail (round_checks q) ≡ None) × (p.at ≡ place_of q) × (p.size ≡ size_of q)
rounds q p h =
    let g = answer-gives (round_checks q) (at_place (place_of q) (size_of q)) p h in
    (g.0, sym (ap (λ (x : EbrPlace). x.at) g.1), sym (ap (λ (x : EbrPlace). x.size) g.1))

-- push on a table whose extended entry is e
module _ (t : MBR) (sys start sectors : ℕ) (h : t.count ≤ most) where
  abbrev q : Request
  q = request_of t sys start sectors

  pub push-eight : extended_in t ≡ None → (push_says t sys start sectors ≡ refuses 8) × (push_table t sys start sectors ≡ t)
  unfolding push_says push_table table_push_checks push_checks
  push-eight x =
      let c = le-leb _ _ h in
      (rw (c, x), rw (c, x))

  first_of : (e : MBRPartitionEntry) → extended_in t ≡ Some e → first-fail (table_push_checks t q) ≡ first-fail (push_checks q (Some e) t.count)
  unfolding table_push_checks
  first_of e x = rw (le-leb _ _ h, x)

  pub push-fails : (e : MBRPartitionEntry) (k : ℕ) → extended_in t ≡ Some e → first-fail (push_checks q (Some e) t.count) ≡ Some k
      → (push_says t sys start sectors ≡ refuses k) × (push_table t sys start sectors ≡ t)
  unfolding push_says push_table
  push-fails e k x f =
      let g = first_of e x ∙ f in
      (checked-some (table_push_checks t q) refuses (gives (t.count + 5)) k g, checked-some (table_push_checks t q) (λ _. t) (pushed_to t q) k g)

  pub push-done : (e : MBRPartitionEntry) → extended_in t ≡ Some e → first-fail (push_checks q (Some e) t.count) ≡ None
      → (push_says t sys start sectors ≡ gives (t.count + 5))
      × (push_table t sys start sectors ≡ with_logicals t (set t.logical_partitions t.count (new_logical (later_than t.count) q)) (t.count + 1))
  unfolding push_says push_table pushed_to
  push-done e x f =
      let g = first_of e x ∙ f in
      (checked-none (table_push_checks t q) refuses (gives (t.count + 5)) g, checked-none (table_push_checks t q) (λ _. t) (pushed_to t q) g)
