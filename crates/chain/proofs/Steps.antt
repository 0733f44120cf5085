-- The steps of reading a chain, as the code takes them: places and record numbers. Assumes nothing.
use mathlib.Core.Path.{◌≡◌, refl, sym, ap, ◌∙◌}
use mathlib.Core.List.{List, [], ◌∷◌}
use Rattle.std.specs.Prelude.{Option, None, Some}
use Prim.Native.Nat.{ℕ, zero, suc, ◌+◌, ◌-◌, ◌^◌, ◌≤◌, ◌<◌}
use native.Mathlib.Omega.{arith}
use native.Mathlib.Nat.{add-zero}
use native.Mathlib.Numerals.{add-one}
use lib.ListN.{length, set, drop}
use borrow.Author.Tests.{lt-ltb, le-ltb, eq-eqb, ne_eqb}
use Rattle.base.specs.Said.{Said, gives, refuses, and_then}
use Rattle.base.specs.Checks.{answer}
use Rattle.base.proofs.Checks.{answer-gives, answer-refuses, checked-none, checked-some}
use Rattle.record_entry.specs.declared.MBRPartitionEntry.{MBRPartitionEntry}
use Rattle.record_entry.specs.Entry.{entry_at, no_entry}
use Rattle.record_ebr.specs.declared.EBRHeader.{EBRHeader}
use Rattle.record_ebr.specs.declared.Entries.{Entries}
use Rattle.record_ebr.specs.Ebr.{ebr_checks, ebr_of, entries_of}
use Rattle.extract.specs.Disk.{Disk}
use Rattle.extract.specs.Extract.{Good, count, disk_sectors, lba_at, record_at, record_of, disk_of, blank}
use Rattle.extract.proofs.Disk.{size_of, sector-of, record-at}
use Rattle.extract.proofs.Halves.{found-is, absent-is}
use Rattle.table.specs.declared.LogicalPartition.{LogicalPartition}
use Rattle.table.specs.Table.{most}
use Rattle.chain.specs.declared.Head.{Head}
use Rattle.chain.specs.Chain.{view, Link, first_link, link_of, placed, join, by_link, follows, follows_in, chain, logicals_of}
use Rattle.chain.specs.Walk.{lack_of, ebr_in, HeadAt, before, places, places_from, places_of, counted, NotedAll}
use Rattle.chain.proofs.Decision.{follows→facts}
use Rattle.chain.proofs.Rows.{chain-stop, chain-on}

-- a record of a good extract is a sector's bytes
pub record_long : (x : List ℕ) (i : ℕ) → Good x → i < count x → length (record_at x i) ≡ 512
record_long x i g b = (record-at x g i b).long

-- what stands at a sector
module _ (x : List ℕ) (a : ℕ) where
  pub open-past : disk_sectors x ≤ a → refuses 2 ≡ view (disk_of x) a
  unfolding view
  open-past h = rw (size_of x, le-ltb a (disk_sectors x) h)

  pub lack-past : disk_sectors x ≤ a → None ≡ lack_of x a
  lack-past h = rw (le-ltb a (disk_sectors x) h)

  -- a sector on the disk with these bytes
  open-sector : (r : List ℕ) → a < disk_sectors x → (disk_of x).sector a ≡ r → answer (ebr_checks r) (ebr_of r) ≡ view (disk_of x) a
  unfolding view
  open-sector r h e = rw (size_of x, lt-ltb a (disk_sectors x) h, e)

  module _ (p : ℕ) (h : a < disk_sectors x) (l : (j : ℕ) → j < p → lba_at x j < a) (u : (j : ℕ) → p ≤ j → j < count x → a < lba_at x j) where
    pub open-blank : refuses 3 ≡ view (disk_of x) a
    open-blank = open-sector blank h (sector-of x a ∙ absent-is x blank a p l u)

    pub lack-blank : Some a ≡ lack_of x a
    lack-blank =
        let z : length (record_of x a) ≡ 0 = ap length (absent-is x [] a p l u) in
        rw (lt-ltb a (disk_sectors x) h, eq-eqb (length (record_of x a)) 0 z)

  module _ (i : ℕ) (g : Good x) (h : a < disk_sectors x) (b : i < count x) (e : lba_at x i ≡ a) where
    pub open-number : answer (ebr_checks (record_at x i)) (ebr_of (record_at x i)) ≡ view (disk_of x) a
    open-number = open-sector (record_at x i) h (sector-of x a ∙ found-is x blank g a i b e)

    pub lack-number : None ≡ lack_of x a
    lack-number =
        let l : length (record_of x a) ≡ 512 = ap length (found-is x [] g a i b e) ∙ (record-at x g i b).long in
        rw (lt-ltb a (disk_sectors x) h, ne_eqb (length (record_of x a)) 0 (λ z. omega arith))

-- an EBR that is opened, from its entries
pub opened-given : (r : List ℕ) (e : Entries) → gives e ≡ answer (ebr_checks r) (entries_of r) → (gives (ebr_of r) ≡ answer (ebr_checks r) (ebr_of r)) × (entries_of r ≡ e)
opened-given r e q =
    let k = answer-gives (ebr_checks r) (entries_of r) e (sym q) in
    (sym (checked-none (ebr_checks r) refuses (gives (ebr_of r)) k.0), k.1)

pub opened-refused : (r : List ℕ) (k : ℕ) → refuses k ≡ answer (ebr_checks r) (entries_of r) → refuses k ≡ answer (ebr_checks r) (ebr_of r)
opened-refused r k q = sym (checked-some (ebr_checks r) refuses (gives (ebr_of r)) k (answer-refuses (ebr_checks r) (entries_of r) k (sym q)))

-- what follows it, from its head
pub head-follows : (x : List ℕ) (X m rel : ℕ) (h : Head) → HeadAt x (X + rel) h → follows m h.at.0 rel h.start h.link.0 ≡ follows_in m X rel (ebr_in x h)
head-follows x X m rel h g = rw (g.at, g.start, g.link)

-- the places of a chain do not depend on the link to its first EBR
places-join : (a : ℕ) (k : Link) (h : EBRHeader) (s : Said (List LogicalPartition)) → places_of (join (placed a k h) s) ≡ before a (places_of s)
unfolding placed
places-join a k h (gives ls) = refl
places-join a k h (refuses j) = refl

pub chain-places : (v : ℕ → Said EBRHeader) (X m rel : ℕ) (k : Link) (h : EBRHeader) → places_of (chain v X m rel k h) ≡ places v X m rel h
unfolding chain places
chain-places v X zero rel k h = refl
chain-places v X (suc m) rel k h = go (follows_in (suc m) X rel h)
  where
    rest : Option ℕ → Said (List LogicalPartition)
    rest o = by_link (gives []) (λ r. and_then (v (X + r)) (chain v X m r (link_of h.partition_2))) o

    go : (s : Said (Option ℕ)) → places_of (and_then s (λ o. join (placed (X + rel) k h) (rest o))) ≡ places_of (and_then s (λ o. join (placed (X + rel) (first_link no_entry) h) (rest o)))
    go (refuses j) = refl
    go (gives o) = places-join (X + rel) k h (rest o) ∙ sym (places-join (X + rel) (first_link no_entry) h (rest o))

-- the steps
module _ (v : ℕ → Said EBRHeader) (X m rel : ℕ) (h : EBRHeader) where
  abbrev p : ℕ
  p = h.partition_1.starting_lba

  abbrev t : ℕ
  t = h.partition_2.starting_lba

  pub places-refused : (k : ℕ) → refuses k ≡ follows_in m X rel h → places v X m rel h ≡ refuses k
  unfolding places chain
  places-refused k q = go m q
    where
      go : (m : ℕ) → refuses k ≡ follows_in m X rel h → places v X m rel h ≡ refuses k
      go zero q = rw (← q)
      go (suc m) q = rw (← q)

  pub places-end : gives None ≡ follows_in m X rel h → places v X m rel h ≡ before (X + rel) (gives [])
  unfolding places placed
  places-end q = go m (follows→facts m (X + rel) rel p t None (sym q)).0 q
    where
      go : (m : ℕ) → 0 < m → gives None ≡ follows_in m X rel h → places v X m rel h ≡ before (X + rel) (gives [])
      go zero z q = absurd (omega arith)
      go (suc m) z q = ap places_of (chain-stop v X m rel (first_link no_entry) h (sym q))

  pub places-on : (r : ℕ) → gives (Some r) ≡ follows_in m X rel h → places v X m rel h ≡ before (X + rel) (places_from v X (m - 1) r)
  unfolding places
  places-on r q = go m (follows→facts m (X + rel) rel p t (Some r) (sym q)).0 q
    where
      k : Link
      k = link_of h.partition_2

      from : (m : ℕ) (s : Said EBRHeader) → places_of (and_then s (chain v X m r k)) ≡ and_then s (places v X m r)
      from m (gives y) = chain-places v X m r k y
      from m (refuses j) = refl

      go : (m : ℕ) → 0 < m → gives (Some r) ≡ follows_in m X rel h → places v X m rel h ≡ before (X + rel) (places_from v X (m - 1) r)
      go zero z q = absurd (omega arith)
      go (suc m) z q =
          let i : m ≡ suc m - 1 = omega arith in
          ap places_of (chain-on v X m rel (first_link no_entry) h r (sym q))
          ∙ places-join (X + rel) (first_link no_entry) h (and_then (v (X + r)) (chain v X m r k))
          ∙ ap (before (X + rel)) (from m (v (X + r)))
          ∙ ap (λ (j : ℕ). before (X + rel) (places_from v X j r)) i

pub from-shut : (v : ℕ → Said EBRHeader) (X m r k : ℕ) → refuses k ≡ v (X + r) → places_from v X m r ≡ refuses k
from-shut v X m r k q = rw (← q)

pub from_on : (v : ℕ → Said EBRHeader) (X m r : ℕ) (h : EBRHeader) → gives h ≡ v (X + r) → places_from v X m r ≡ places v X m r h
from_on v X m r h q = rw (← q)

pub counted_none : (p : ℕ) → gives p ≡ counted p (gives [])
counted_none p = ap gives (sym (add-zero p))

pub counted-refused : (p k : ℕ) (s : Said (List ℕ)) → refuses k ≡ counted p s → s ≡ refuses k
counted-refused p k (refuses j) h = cc
counted-refused p k (gives ps) h = let w : ◌≡◌ {A = ℕ} 0 1 = cc in absurd (omega arith)

-- one more in front
pub counted-more : (p a : ℕ) (s : Said (List ℕ)) → counted (p + 1) s ≡ counted p (before a s)
counted-more p a (gives ps) = let z : p + 1 + length ps ≡ p + suc (length ps) = omega arith in ap gives z
counted-more p a (refuses k) = refl

pub noted_more : (x is : List ℕ) (a : ℕ) (h : Head) (s : Said (List ℕ)) → HeadAt x a h → h.start + a < 2 ^ 32 → NotedAll x is s → NotedAll x (h.number ∷ is) (before a s)
noted_more x is a h (refuses k) g f n = tt
noted_more x is a h (gives ps) g f n =
    let w : (entry_at (record_at x h.number) 446).starting_lba + lba_at x h.number < 2 ^ 32 = omega (arith, g.start, g.listed) in
    (record { inside = g.inside; fits = w }, g.listed, n)

-- a number stored in front of those behind it
drop-stored : (f : List ℕ) (p v : ℕ) → p < length f → drop p (set f p v) ≡ v ∷ drop (suc p) f
drop-stored [] p v h = absurd (omega arith)
drop-stored (b ∷ bs) zero v h = refl
drop-stored (b ∷ bs) (suc p) v h = drop-stored bs p v (omega arith)

pub noted-stored : (x f : List ℕ) (p a : ℕ) (h : Head) (s : Said (List ℕ)) → p < length f → HeadAt x a h → h.start + a < 2 ^ 32 → NotedAll x (drop (p + 1) f) s
    → NotedAll x (drop p (set f p h.number)) (before a s)
noted-stored x f p a h s b g w n = rw (drop-stored f p h.number b) (noted_more x (drop (suc p) f) a h s g w (rw add-one at n))

-- the first EBR
module _ (d : Disk) (x : MBRPartitionEntry) where
  first-at : (s : Said EBRHeader) → view d (x.starting_lba + 0) ≡ s → view d x.starting_lba ≡ s
  first-at s q = ap (view d) (sym (add-zero x.starting_lba)) ∙ q

  pub first-shut : (k : ℕ) → refuses k ≡ view d (x.starting_lba + 0) → places_of (logicals_of (view d) (Some x)) ≡ gives []
  unfolding logicals_of
  first-shut k q = rw (first-at (refuses k) (sym q))

  pub first_on : (h : EBRHeader) → gives h ≡ view d (x.starting_lba + 0) → places_of (logicals_of (view d) (Some x)) ≡ places (view d) x.starting_lba most 0 h
  unfolding logicals_of
  first_on h q = rw (first-at (gives h) (sym q)) (chain-places (view d) x.starting_lba most 0 (first_link x) h)
