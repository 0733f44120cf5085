-- Reading a chain, and the row of facts that it amounts to: both directions. Assumes nothing.
use mathlib.Core.Path.{◌≡◌, refl, ap, sym, ◌∙◌}
use Rattle.std.specs.Prelude.{Option, None, Some}
use mathlib.Core.List.{List, [], ◌∷◌}
use Prim.Native.Nat.{ℕ, zero, suc, ◌+◌, ◌-◌, ◌^◌, ◌≤◌, ◌<◌}
use native.Mathlib.Omega.{arith}
use native.Mathlib.Nat.{add-zero}
use Rattle.base.specs.Said.{Said, gives, refuses, and_then}
use Rattle.base.specs.Row.{next}
use Rattle.record_entry.specs.declared.MBRPartitionEntry.{MBRPartitionEntry}
use Rattle.record_ebr.specs.declared.EBRHeader.{EBRHeader}
use Rattle.table.specs.declared.LogicalPartition.{LogicalPartition}
use Rattle.table.specs.Table.{most}
use Rattle.chain.specs.Chain.{Link, first_link, link_of, starting_at, placed, join, by_link, follows_in, chain, forgiven, logicals_of}
use Rattle.chain.specs.Facts.{Body, Next, stop, to, View, ebr, next_of, body_in, viewed, saw, at, start, link_in, body_of, leads, Held, Before, Plain, Rows, Empty, Holds}
use Rattle.chain.proofs.Decision.{follows-none, follows-end, follows_to, follows→facts}
use Rattle.chain.proofs.View.{Seen, seen→view, next-stop, next-to, next→stop, next→to}

-- a logical partition by what its EBR says of it
unfoldable pub placed_from : ℕ → Link → Body → LogicalPartition
placed_from a k b =
    record {
      partition = starting_at (b.part.starting_lba + a) b.part;
      absolute_ebr_lba = record { 0 = a };
      ebr_sectors = k.sectors;
      ebr_first_chs = k.first;
      ebr_last_chs = k.last;
      kept = b.kept;
    }

placed_at : (a : ℕ) (k : Link) (b : Body) → at (placed_from a k b) ≡ a
unfolding placed_from
placed_at a k b = refl

placed-link : (a : ℕ) (k : Link) (b : Body) → link_in (placed_from a k b) ≡ k
unfolding placed_from link_in
placed-link a k b = refl

placed-start : (a : ℕ) (k : Link) (b : Body) → start (placed_from a k b) ≡ b.part.starting_lba + a
unfolding placed_from
placed-start a k b = refl

body-placed : (a : ℕ) (k : Link) (b : Body) → body_of (placed_from a k b) ≡ b
unfolding placed_from body_of
body-placed a k b =
    let h : b.part.starting_lba + a - a ≡ b.part.starting_lba = omega arith in
    λ i. record { kept = b.kept; part = starting_at (h i) b.part }

body-start : (l : LogicalPartition) → (body_of l).part.starting_lba ≡ start l - at l
unfolding body_of
body-start l = refl

pub placed-body : (l : LogicalPartition) → at l ≤ start l → placed_from (at l) (link_in l) (body_of l) ≡ l
unfolding placed_from body_of link_in
placed-body l h =
    let e : start l - at l + at l ≡ start l = omega arith in
    λ i. record {
      partition = starting_at (e i) l.partition;
      absolute_ebr_lba = l.absolute_ebr_lba;
      ebr_sectors = l.ebr_sectors;
      ebr_first_chs = l.ebr_first_chs;
      ebr_last_chs = l.ebr_last_chs;
      kept = l.kept;
    }

pub placed_by : (a : ℕ) (k : Link) (h : EBRHeader) → placed a k h ≡ placed_from a k (body_in h)
unfolding placed placed_from
placed_by a k h = refl

-- one step of the chain
module _ (v : ℕ → Said EBRHeader) (X m rel : ℕ) (k : Link) (h : EBRHeader) where
  pub chain-stop : follows_in (suc m) X rel h ≡ gives None → chain v X (suc m) rel k h ≡ gives (placed (X + rel) k h ∷ [])
  unfolding chain
  chain-stop q = rw q

  pub chain-on : (r : ℕ) → follows_in (suc m) X rel h ≡ gives (Some r)
      → chain v X (suc m) rel k h ≡ join (placed (X + rel) k h) (and_then (v (X + r)) (chain v X m r (link_of h.partition_2)))
  unfolding chain
  chain-on r q = rw q

-- a row of facts is read as that chain
module _ (v : ℕ → Said EBRHeader) (X m rel : ℕ) (k : Link) (l : LogicalPartition) (n : Next) (s : Seen (v (at l)) (body_of l) n) (e : at l ≡ X + rel) (ek : link_in l ≡ k) (ha : at l ≤ start l) where
  held-here : v (X + rel) ≡ gives s.header
  held-here = ap v (sym e) ∙ s.is

  placed-held : placed (X + rel) k s.header ≡ l
  placed-held =
      placed_by (X + rel) k s.header
      ∙ ap (placed_from (X + rel) k) s.body
      ∙ (λ i. placed_from (sym e i) (sym ek i) (body_of l))
      ∙ placed-body l ha

  fits-held : start l < 2 ^ 32 → s.header.partition_1.starting_lba + (X + rel) < 2 ^ 32
  fits-held f =
      let b : s.header.partition_1.starting_lba ≡ start l - at l = ap (λ (y : Body). y.part.starting_lba) s.body ∙ body-start l in
      omega arith

pub row→chain : (v : ℕ → Said EBRHeader) (X m rel : ℕ) (k : Link) (ls : List LogicalPartition) → Rows (saw v) X m rel k ls
    → and_then (v (X + rel)) (chain v X m rel k) ≡ gives ls
row→chain v X m rel k [] r = absurd r.begins
row→chain v X zero rel k (l ∷ ls) r = absurd (omega (arith, r.few))
row→chain v X (suc m) rel k (l ∷ []) r =
    let s = seen→view (v (at l)) (body_of l) stop r.held.0 in
    let h = s.header in
    let e = r.begins.0 in
    let a = r.plain.0.after in
    let f = fits-held v X m rel k l stop s e r.begins.1 a r.plain.0.fits in
    let z : h.partition_2.starting_lba ≡ 0 = next→stop h.partition_2 s.leads in
    let q = follows-end (suc m) (X + rel) rel h.partition_1.starting_lba h.partition_2.starting_lba (omega arith) f z in
    rw (held-here v X m rel k l stop s e r.begins.1 a) (chain-stop v X m rel k h (sym q) ∙ rw (placed-held v X m rel k l stop s e r.begins.1 a))
row→chain v X (suc m) rel k (l ∷ j ∷ js) r =
    let n : Next = to (at j - X) (link_in j) in
    let s = seen→view (v (at l)) (body_of l) n r.held.0 in
    let h = s.header in
    let e = r.begins.0 in
    let a = r.plain.0.after in
    let f = fits-held v X m rel k l n s e r.begins.1 a r.plain.0.fits in
    let z = next→to h.partition_2 (at j - X) (link_in j) s.leads in
    let u : rel < at j - X = omega (arith, r.plain.0.before, r.begins.0) in
    let q = follows_to (suc m) (X + rel) rel h.partition_1.starting_lba h.partition_2.starting_lba (omega arith) f (λ y. omega (arith, z.0)) (omega (arith, z.0)) in
    let i : at j ≡ X + (at j - X) = omega (arith, r.plain.1.0.inside) in
    let t : and_then (v (X + (at j - X))) (chain v X m (at j - X) (link_in j)) ≡ gives (j ∷ js) =
    row→chain v X m (at j - X) (link_in j) (j ∷ js) (record { begins = (i, refl); held = r.held.1; plain = r.plain.1; few = omega (arith, r.few) }) in
    rw (held-here v X m rel k l n s e r.begins.1 a)
    (chain-on v X m rel k h (at j - X) (sym q ∙ ap (λ (y : ℕ). gives (Some y)) z.0) ∙ rw (z.1, t, placed-held v X m rel k l n s e r.begins.1 a))

-- the other way
no-chain : {A : Type 0} (k : ℕ) (ls : List LogicalPartition) → refuses k ≡ gives ls → A
no-chain k ls c = let z : ◌≡◌ {A = ℕ} 0 1 = cc in absurd (omega arith)

module _ (w : ℕ → View) (X m rel : ℕ) (k : Link) (b : Body) (t : b.part.starting_lba + (X + rel) < 2 ^ 32) where
  here : LogicalPartition
  here = placed_from (X + rel) k b

  plain_here : (n : Option LogicalPartition) → Before here n → Plain X here n
  unfolding here
  plain_here n h = record {
    inside = rw placed_at (omega arith);
    after = rw (placed_at, placed-start) (omega arith);
    fits = rw placed-start t;
    before = h;
  }

  here-held : (n : Next) (o : Option LogicalPartition) → w (X + rel) ≡ ebr b n → n ≡ leads X o → Held w X here o
  unfolding here
  here-held n o e h = rw (body-placed, placed_at, ← h) e

  rows-stop : w (X + rel) ≡ ebr b stop → Rows w X (suc m) rel k (here ∷ [])
  unfolding here
  rows-stop e = record {
    begins = (placed_at (X + rel) k b, placed-link (X + rel) k b);
    held = (here-held stop None e refl, tt);
    plain = (plain_here None tt, tt);
    few = omega arith;
  }

  rows_more : (r : ℕ) (j : Link) (ls : List LogicalPartition) → w (X + rel) ≡ ebr b (to r j) → rel < r → Rows w X m r j ls → Rows w X (suc m) rel k (here ∷ ls)
  unfolding here
  rows_more r j [] e lt c = absurd c.begins
  rows_more r j (o ∷ os) e lt c =
      let q : r ≡ at o - X = omega (arith, c.begins.0) in
      record {
        begins = (placed_at (X + rel) k b, placed-link (X + rel) k b);
        held = (here-held (to r j) (Some o) e (rw (← q, c.begins.1)), c.held);
        plain = (plain_here (Some o) (rw placed_at (omega (arith, c.begins.0))), c.plain);
        few = omega (arith, c.few);
      }

-- reading past an EBR, taken apart
module _ (v : ℕ → Said EBRHeader) (X m rel : ℕ) (k : Link) (h : EBRHeader) (ls : List LogicalPartition) (e : v (X + rel) ≡ gives h)
    (ih : (r : ℕ) (j : Link) (ms : List LogicalPartition) → and_then (v (X + r)) (chain v X m r j) ≡ gives ms → Rows (saw v) X m r j ms) where
  abbrev p : ℕ
  p = h.partition_1.starting_lba

  abbrev t : ℕ
  t = h.partition_2.starting_lba

  sees : (n : Next) → next_of h.partition_2 ≡ n → saw v (X + rel) ≡ ebr (body_in h) n
  sees n q = ap viewed e ∙ ap (ebr (body_in h)) q

  after_stop : follows_in (suc m) X rel h ≡ gives None → gives (placed (X + rel) k h ∷ []) ≡ gives ls → Rows (saw v) X (suc m) rel k ls
  unfolding here
  after_stop q c =
      let f = follows→facts (suc m) (X + rel) rel p t None q in
      let z : placed (X + rel) k h ∷ [] ≡ ls = cc in
      rw (← z, placed_by (X + rel) k h) (rows-stop (saw v) X m rel k (body_in h) f.1 (sees stop (next-stop h.partition_2 f.2)))

  after_on : (r : ℕ) → follows_in (suc m) X rel h ≡ gives (Some r) → (s : Said (List LogicalPartition)) → and_then (v (X + r)) (chain v X m r (link_of h.partition_2)) ≡ s
      → join (placed (X + rel) k h) s ≡ gives ls → Rows (saw v) X (suc m) rel k ls
  unfolding here
  after_on r q (refuses j) y c = no-chain j ls c
  after_on r q (gives ms) y c =
      let f = follows→facts (suc m) (X + rel) rel p t (Some r) q in
      let z : placed (X + rel) k h ∷ ms ≡ ls = cc in
      let o : next_of h.partition_2 ≡ to r (link_of h.partition_2) = next-to h.partition_2 (omega (arith, f.2.0, f.2.1)) ∙ ap (λ (y : ℕ). to y (link_of h.partition_2)) f.2.0 in
      rw (← z, placed_by (X + rel) k h)
      (rows_more (saw v) X m rel k (body_in h) f.1 r (link_of h.partition_2) ms (sees (to r (link_of h.partition_2)) o) f.2.1 (ih r (link_of h.partition_2) ms y))

  after : (s : Said (Option ℕ)) → follows_in (suc m) X rel h ≡ s
      → and_then s (λ o. join (placed (X + rel) k h) (by_link (gives []) (λ r. and_then (v (X + r)) (chain v X m r (link_of h.partition_2))) o)) ≡ gives ls
      → Rows (saw v) X (suc m) rel k ls
  after (refuses j) q c = no-chain j ls c
  after (gives None) q c = after_stop q c
  after (gives (Some r)) q c = after_on r q (and_then (v (X + r)) (chain v X m r (link_of h.partition_2))) refl c

pub chain→row : (v : ℕ → Said EBRHeader) (X m rel : ℕ) (k : Link) (ls : List LogicalPartition) → and_then (v (X + rel)) (chain v X m rel k) ≡ gives ls
    → Rows (saw v) X m rel k ls
unfolding chain
chain→row v X zero rel k ls c = go (v (X + rel)) c
  where
    go : (s : Said EBRHeader) → and_then s (λ h. and_then (follows_in zero X rel h) (λ o. gives [])) ≡ gives ls → Rows (saw v) X zero rel k ls
    go (refuses j) c = no-chain j ls c
    go (gives h) c = no-chain 6 ls (rw (← (follows-none zero (X + rel) rel h.partition_1.starting_lba h.partition_2.starting_lba refl)) at c)
chain→row v X (suc m) rel k ls c = go (chain→row v X m) (v (X + rel)) refl c
  where
    go : ((r : ℕ) (j : Link) (ms : List LogicalPartition) → and_then (v (X + r)) (chain v X m r j) ≡ gives ms → Rows (saw v) X m r j ms)
        → (s : Said EBRHeader) → v (X + rel) ≡ s
        → and_then s (λ h. and_then (follows_in (suc m) X rel h) (λ o. join (placed (X + rel) k h) (by_link (gives []) (λ r. and_then (v (X + r)) (chain v X m r (link_of h.partition_2))) o))) ≡ gives ls
        → Rows (saw v) X (suc m) rel k ls
    go ih (refuses j) e c = no-chain j ls c
    go ih (gives h) e c = after v X m rel k h ls e ih (follows_in (suc m) X rel h) refl c

-- the logical partitions of an extended entry, both ways
first-held : (s : Said EBRHeader) (b : Body) (n : Next) (f : EBRHeader → Said (List LogicalPartition)) → viewed s ≡ ebr b n → forgiven s f ≡ and_then s f
first-held (gives h) b n f e = refl
first-held (refuses k) b n f e = let z : ◌≡◌ {A = ℕ} 0 1 = cc in absurd (omega arith)

walk-zero : (v : ℕ → Said EBRHeader) (X : ℕ) (f : EBRHeader → Said (List LogicalPartition)) → and_then (v (X + 0)) f ≡ and_then (v X) f
walk-zero v X f = ap (λ a. and_then (v a) f) (add-zero X)

pub holds→logicals : (v : ℕ → Said EBRHeader) (o : Option MBRPartitionEntry) (ls : List LogicalPartition) → Holds (saw v) o ls → logicals_of v o ≡ gives ls
unfolding logicals_of
holds→logicals v None [] h = refl
holds→logicals v None (l ∷ ls) h = absurd h
holds→logicals v (Some e) [] h = go (v e.starting_lba) h
  where
    go : (s : Said EBRHeader) → Empty (viewed s) → forgiven s (chain v e.starting_lba most 0 (first_link e)) ≡ gives []
    go (gives x) h = absurd h
    go (refuses k) h = refl
holds→logicals v (Some e) (l ∷ ls) h =
    let X = e.starting_lba in
    let f = chain v X most 0 (first_link e) in
    let p : at l ≡ X = h.begins.0 ∙ add-zero X in
    let q : viewed (v X) ≡ ebr (body_of l) (leads X (next ls None)) = ap (saw v) (sym p) ∙ h.held.0 in
    first-held (v X) (body_of l) (leads X (next ls None)) f q ∙ sym (walk-zero v X f) ∙ row→chain v X most 0 (first_link e) (l ∷ ls) h

pub logicals→holds : (v : ℕ → Said EBRHeader) (o : Option MBRPartitionEntry) (ls : List LogicalPartition) → logicals_of v o ≡ gives ls → Holds (saw v) o ls
unfolding logicals_of
logicals→holds v None [] h = tt
logicals→holds v None (l ∷ ls) h = let z : ◌≡◌ {A = ℕ} 0 1 = cc in absurd (omega arith)
logicals→holds v (Some e) ls h = go ls (v e.starting_lba) refl h
  where
    go : (ls : List LogicalPartition) (s : Said EBRHeader) → v e.starting_lba ≡ s → forgiven s (chain v e.starting_lba most 0 (first_link e)) ≡ gives ls
        → Holds (saw v) (Some e) ls
    go [] (refuses k) q h = rw q tt
    go (l ∷ ls) (refuses k) q h = let z : ◌≡◌ {A = ℕ} 0 1 = cc in absurd (omega arith)
    go [] (gives x) q h =
        absurd (chain→row v e.starting_lba most 0 (first_link e) [] (walk-zero v e.starting_lba (chain v e.starting_lba most 0 (first_link e)) ∙ rw q h)).begins
    go (l ∷ ls) (gives x) q h =
        chain→row v e.starting_lba most 0 (first_link e) (l ∷ ls) (walk-zero v e.starting_lba (chain v e.starting_lba most 0 (first_link e)) ∙ rw q h)
