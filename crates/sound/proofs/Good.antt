-- The chain of a sound table as one row of facts, both ways; what its extended entry is. Assumes nothing.
use mathlib.Core.Path.{◌≡◌, refl, sym, subst, ◌∙◌}
use mathlib.Core.Logic.{◌⊎◌, inl, inr}
use Rattle.std.specs.Prelude.{Option, None, Some}
use mathlib.Core.Bool.{Bool, true, false, not}
use mathlib.Core.List.{List, [], ◌∷◌}
use Prim.Native.Nat.{ℕ, ◌+◌, ◌≤◌, ◌<◌}
use native.Mathlib.Omega.{arith}
use lib.Dec.{eqb}
use borrow.Author.Tests.{eqb-true}
use Rattle.base.specs.Pick.{pick, among}
use Rattle.base.specs.Row.{Row, next}
use Rattle.base.proofs.Row.{row-map}
use Rattle.base.specs.All.{All}
use Rattle.record_entry.specs.declared.MBRPartitionEntry.{MBRPartitionEntry}
use Rattle.record_entry.specs.Entry.{used, extended, end_of}
use Rattle.record_mbr.specs.Mbr.{extended_of}
use Rattle.table.specs.declared.LogicalPartition.{LogicalPartition}
use Rattle.table.specs.Table.{parts}
use Rattle.chain.specs.Facts.{at, start, Before}
use Rattle.sound.specs.Is.{later}
use Rattle.sound.specs.Sound.{Contents, primaries_of, extended_entry, area_start, area_end, Vacant, vacantb, end, zones, bound, Flagged, EntryChs, LogicalChs, Used, Extended, EndsBy, FirstAt, OfLink, Sound}
use Rattle.sound.proofs.Is.{is_eq, is-and}

-- the rules of a logical partition by itself
pub record Own (l : LogicalPartition) : Type 0 where
  pub flag : Flagged l.partition
  pub chs : LogicalChs l
  pub plain : ¬ (Extended l.partition)

-- a zone: used, after its EBR
pub record Zone (l : LogicalPartition) : Type 0 where
  pub used : Used l.partition
  pub after : at l < start l
  pub size : 1 ≤ l.partition.sectors

-- a zone, or an EBR without a partition
abbrev pub Place : LogicalPartition → Type 0
Place l = Zone l ⊎ (vacantb l ≡ true)

pub vacant-of : (l : LogicalPartition) → vacantb l ≡ true → Vacant l
unfolding vacantb
vacant-of l h =
    let k = (is-and _ _ _ _ (is_eq l.partition.sys 0) (is-and _ _ _ _ (is_eq (start l) (at l)) (is_eq l.partition.sectors 0))).to h in
    record { sys = k.0; place = k.1.0; sectors = k.1.1 }

-- where they end
pub sized-end : (l : LogicalPartition) → 1 ≤ l.partition.sectors → end l ≡ end_of l.partition
unfolding end
sized-end l h = go (vacantb l) refl
  where
    go : (b : Bool) → vacantb l ≡ b → pick b (at l + 1) (end_of l.partition) ≡ end_of l.partition
    go false q = refl
    go true q = absurd (omega (arith, (vacant-of l q).sectors))

pub zone-end : (l : LogicalPartition) → Zone l → end l ≡ end_of l.partition
zone-end l z = sized-end l z.size

pub vacant-end : (l : LogicalPartition) → vacantb l ≡ true → end l ≡ at l + 1
unfolding end
vacant-end l h = rw h

-- an EBR ends before its partition does
pub place-above : (l : LogicalPartition) → Place l → at l < end l
place-above l (inl z) = omega (arith, zone-end l z, z.after, z.size)
place-above l (inr h) = omega (arith, vacant-end l h)

-- the link to a later one, which is a zone, up to the extended end
pub record Span (hi : ℕ) (m : LogicalPartition) : Type 0 where
  pub zone : Zone m
  pub span : ℕ
  pub sectors : m.ebr_sectors ≡ Some span
  pub size : 1 ≤ span
  pub ends : at m + span ≤ hi
  pub covers : end m ≤ at m + span

abbrev pub Linked : ℕ → Option LogicalPartition → Type 0
Linked hi None = Unit {0}
Linked hi (Some m) = Span hi m

pub record Good (hi : ℕ) (l : LogicalPartition) (n : Option LogicalPartition) : Type 0 where
  pub own : Own l
  pub place : Place l
  pub ends : end l ≤ bound hi n
  pub linked : Linked hi n

span_of : (hi : ℕ) (m : LogicalPartition) → Zone m → OfLink (λ n. 1 ≤ n) ⊥ m.ebr_sectors → OfLink (λ n. at m + n ≤ hi) (Unit {0}) m.ebr_sectors
    → OfLink (λ n. end m ≤ at m + n) (Unit {0}) m.ebr_sectors → Span hi m
span_of hi m z a b c = go m.ebr_sectors refl a b c
  where
    go : (s : Option ℕ) → m.ebr_sectors ≡ s → OfLink (λ n. 1 ≤ n) ⊥ s → OfLink (λ n. at m + n ≤ hi) (Unit {0}) s
        → OfLink (λ n. end m ≤ at m + n) (Unit {0}) s → Span hi m
    go None q a b c = absurd a
    go (Some n) q a b c = record { zone = z; span = n; sectors = q; size = a; ends = b; covers = c }

good-row : (hi : ℕ) (l : LogicalPartition) (ls : List LogicalPartition) → All Flagged (parts (l ∷ ls)) → All LogicalChs (l ∷ ls)
    → All (λ x. ¬ (Extended x.partition)) (l ∷ ls) → Place l → All Zone ls → Row (EndsBy hi) (l ∷ ls) None
    → All (λ x. OfLink (λ n. 1 ≤ n) ⊥ x.ebr_sectors) ls → All (λ x. OfLink (λ n. at x + n ≤ hi) (Unit {0}) x.ebr_sectors) ls
    → All (λ x. OfLink (λ n. end x ≤ at x + n) (Unit {0}) x.ebr_sectors) ls → Row (Good hi) (l ∷ ls) None
good-row hi l [] f c p w z e i j k = (record { own = record { flag = f.0; chs = c.0; plain = p.0 }; place = w; ends = e.0; linked = tt }, tt)
good-row hi l (m ∷ ms) f c p w z e i j k = (
  record {
    own = record { flag = f.0; chs = c.0; plain = p.0 };
    place = w;
    ends = e.0;
    linked = span_of hi m z.0 i.0 j.0 k.0;
  },
  good-row hi m ms f.1 c.1 p.1 (inl z.0) z.1 e.1 i.1 j.1 k.1,
)

all-zones : (ls : List LogicalPartition) → All (λ x. Used x.partition) ls → All (λ x. 1 ≤ x.partition.sectors) ls → All (λ x. at x < start x) ls → All Zone ls
all-zones [] u s a = tt
all-zones (l ∷ ls) u s a = (record { used = u.0; after = a.0; size = s.0 }, all-zones ls u.1 s.1 a.1)

-- all but the first are zones
zones-parts : (l : LogicalPartition) (ls : List LogicalPartition) → All Zone (zones (l ∷ ls)) → Place l × All Zone ls
unfolding zones
zones-parts l ls a = go (vacantb l) refl a
  where
    go : (b : Bool) → vacantb l ≡ b → All Zone (pick b ls (l ∷ ls)) → Place l × All Zone ls
    go true q a = (inr q, a)
    go false q a = (inl a.0, a.1)

pub sound-first : (t : Contents) (e : MBRPartitionEntry) → Sound t → extended_entry t ≡ Some e → FirstAt e.starting_lba t.logicals
unfolding area_start
sound-first t e s x = rw x at s.first

pub sound-row : (t : Contents) (e : MBRPartitionEntry) → Sound t → extended_entry t ≡ Some e → Row (Good (end_of e)) t.logicals None
unfolding area_end
sound-row t e s x =
    go t.logicals s.flags.1 s.addresses.1 s.plain (all-zones (zones t.logicals) s.used s.sized s.behind) (rw x at s.ends) s.link-sized (rw x at s.link-ends)
    s.link-covers
  where
    go : (ls : List LogicalPartition) → All Flagged (parts ls) → All LogicalChs ls → All (λ x. ¬ (Extended x.partition)) ls → All Zone (zones ls)
        → Row (EndsBy (end_of e)) ls None → All (λ x. OfLink (λ n. 1 ≤ n) ⊥ x.ebr_sectors) (later ls)
        → All (λ x. OfLink (λ n. at x + n ≤ end_of e) (Unit {0}) x.ebr_sectors) (later ls)
        → All (λ x. OfLink (λ n. end x ≤ at x + n) (Unit {0}) x.ebr_sectors) (later ls) → Row (Good (end_of e)) ls None
    go [] f c p z r i j k = tt
    go (l ∷ ls) f c p z r i j k =
        let w = zones-parts l ls z in
        good-row (end_of e) l ls f c p w.0 w.1 r i j k

of-link : (P : ℕ → Type 0) (Q : Type 0) (s : Option ℕ) (n : ℕ) → s ≡ Some n → P n → OfLink P Q s
of-link P Q s n e p = subst (OfLink P Q) (sym e) p

-- the other way
module _ (hi : ℕ) where
  row-parts : (ls : List LogicalPartition) (n : Option LogicalPartition) → Row (Good hi) ls n → All Flagged (parts ls)
  row-parts [] n g = tt
  row-parts (l ∷ ls) n g = (g.0.own.flag, row-parts ls n g.1)

  row-all : (P : LogicalPartition → Type 0) → ((l : LogicalPartition) (n : Option LogicalPartition) → Good hi l n → P l)
      → (ls : List LogicalPartition) (n : Option LogicalPartition) → Row (Good hi) ls n → All P ls
  row-all P f [] n g = tt
  row-all P f (l ∷ ls) n g = (f l (next ls n) g.0, row-all P f ls n g.1)

  row-links : (P : LogicalPartition → Type 0) → ((m : LogicalPartition) → Span hi m → P m) → (ls : List LogicalPartition) → Row (Good hi) ls None
      → All P (later ls)
  row-links P f [] g = tt
  row-links P f (l ∷ []) g = tt
  row-links P f (l ∷ m ∷ ms) g = (f m g.0.linked, row-links P f (m ∷ ms) g.1)

  -- those with a partition are zones
  row-zones : (P : LogicalPartition → Type 0) → ((l : LogicalPartition) → Zone l → P l) → (ls : List LogicalPartition) → Row (Good hi) ls None → All P (zones ls)
  unfolding zones
  row-zones P f [] g = tt
  row-zones P f (l ∷ ls) g = go (vacantb l) refl g.0.place
    where
      rest : All P ls
      rest = row-links P (λ m k. f m k.zone) (l ∷ ls) g

      go : (b : Bool) → vacantb l ≡ b → Place l → All P (pick b ls (l ∷ ls))
      go true q w = rest
      go false q (inl z) = (f l z, rest)
      go false q (inr h) =
          let w : ◌≡◌ {A = Bool} true false = sym h ∙ q in
          let n : ◌≡◌ {A = ℕ} 0 1 = cc in
          absurd (omega arith)

  before-good : (l : LogicalPartition) (n : Option LogicalPartition) → Good hi l n → Before l n
  before-good l None g = tt
  before-good l (Some m) g = omega (arith, place-above l g.place, g.ends)

  -- a sound table's chain may be exchanged for any row of good ones
  pub resound : (t : Contents) (e : MBRPartitionEntry) → end_of e ≡ hi → Sound t → extended_entry t ≡ Some e → (ls : List LogicalPartition)
      → FirstAt e.starting_lba ls → Row (Good hi) ls None → Sound (record { width = t.width; size = t.size; header = t.header; logicals = ls })
  unfolding area_start area_end
  resound t e h s x ls f g = record {
    signed = s.signed;
    flags = (s.flags.0, row-parts ls None g);
    addresses = (s.addresses.0, row-all LogicalChs (λ l n k. k.own.chs) ls None g);
    starts = s.starts;
    sizes = s.sizes;
    on-disk = s.on-disk;
    apart = s.apart;
    one = s.one;
    owned = rw x tt;
    used = row-zones _ (λ l z. z.used) ls g;
    plain = row-all _ (λ l n k. k.own.plain) ls None g;
    sized = row-zones _ (λ l z. z.size) ls g;
    behind = row-zones _ (λ l z. z.after) ls g;
    ends = rw (x, h) (row-map (Good hi) (EndsBy hi) (λ l n k. k.ends) ls None g);
    first = rw x f;
    ascend = row-map (Good hi) Before before-good ls None g;
    link-sized = row-links _ (λ m k. of-link _ _ m.ebr_sectors k.span k.sectors k.size) ls g;
    link-ends = rw (x, h) (row-links _ (λ m k. of-link (λ n. at m + n ≤ hi) _ m.ebr_sectors k.span k.sectors k.ends) ls g);
    link-covers = row-links _ (λ m k. of-link (λ n. end m ≤ at m + n) _ m.ebr_sectors k.span k.sectors k.covers) ls g;
  }

-- the extended entry
pub record Area (D : ℕ) (e : MBRPartitionEntry) : Type 0 where
  pub start : 1 ≤ e.starting_lba
  pub size : 1 ≤ e.sectors
  pub ends : end_of e ≤ D
  pub chs : EntryChs e
  pub ext : Extended e
  pub used : Used e

-- an extended type is used, and a byte
among-small : (k : ℕ) (ks : List ℕ) (m : ℕ) → All (λ x. x < m) ks → among k ks ≡ true → k < m
among-small k [] m b h = let w : ◌≡◌ {A = ℕ} 0 1 = cc in absurd (omega arith)
among-small k (x ∷ xs) m b h = go (eqb k x) refl (among-small k xs m b.1) h
  where
    go : (t : Bool) → eqb k x ≡ t → (among k xs ≡ true → k < m) → pick t true (among k xs) ≡ true → k < m
    go true q ih h = omega (arith, eqb-true k x q, b.0)
    go false q ih h = ih h

pub extended-small : (k : ℕ) → extended k ≡ true → k < 256
extended-small k h = among-small k (0x05 ∷ 0x0F ∷ 0x85 ∷ 0xC5 ∷ 0xD5 ∷ []) 256 (omega arith) h

pub extended-used : (k : ℕ) → extended k ≡ true → used k ≡ true
extended-used k h = go (eqb k 0) refl
  where
    go : (t : Bool) → eqb k 0 ≡ t → not t ≡ true
    go false q = refl
    go true q =
        let z : k ≡ 0 = eqb-true k 0 q in
        let c : extended 0 ≡ true = rw z at h in
        let w : ◌≡◌ {A = ℕ} 0 1 = cc in
        absurd (omega arith)

module _ (P : MBRPartitionEntry → Type 0) (e : MBRPartitionEntry) where
  pub ext-go : (p : MBRPartitionEntry) (ps : List MBRPartitionEntry) (b : Bool) → extended p.sys ≡ b → pick b (Some p) (extended_of ps) ≡ Some e
      → ((p ≡ e) × Extended p) ⊎ ((extended p.sys ≡ false) × (extended_of ps ≡ Some e))
  ext-go p ps true q h = inl (cc, q)
  ext-go p ps false q h = inr (q, h)

  -- the extended entry is one of the list, and has what all of them have
  pub ext-all : (ps : List MBRPartitionEntry) → All P ps → extended_of ps ≡ Some e → P e × Extended e
  unfolding extended_of
  ext-all [] a h = let w : ◌≡◌ {A = ℕ} 0 1 = cc in absurd (omega arith)
  ext-all (p ∷ ps) a h = go (ext-all ps a.1) (ext-go p ps (extended p.sys) refl h)
    where
      go : (extended_of ps ≡ Some e → P e × Extended e) → ((p ≡ e) × Extended p) ⊎ ((extended p.sys ≡ false) × (extended_of ps ≡ Some e)) → P e × Extended e
      go ih (inl q) = (subst P q.0 a.0, subst Extended q.0 q.1)
      go ih (inr q) = ih q.1

pub area_of : (t : Contents) (e : MBRPartitionEntry) → Sound t → extended_entry t ≡ Some e → Area t.size e
area_of t e s x =
    let a = ext-all (λ p. Used p → 1 ≤ p.starting_lba) e (primaries_of t) s.starts x in
    let b = ext-all (λ p. Used p → 1 ≤ p.sectors) e (primaries_of t) s.sizes x in
    let c = ext-all (λ p. Used p → end_of p ≤ t.size) e (primaries_of t) s.on-disk x in
    let d = ext-all EntryChs e (primaries_of t) s.addresses.0 x in
    let u : Used e = extended-used e.sys a.1 in
    record { start = a.0 u; size = b.0 u; ends = c.0 u; chs = d.0; ext = a.1; used = u }
