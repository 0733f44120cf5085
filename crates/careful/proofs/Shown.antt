-- A disk that keeps its MBR and holds a sound chain reads as the table with that chain; safe changes of one and of two stores. Assumes nothing.
use mathlib.Core.Path.{◌≡◌, refl, sym, subst, ◌∙◌}
use mathlib.Core.Logic.{◌⊎◌, inl, inr}
use Rattle.std.specs.Prelude.{None, Some}
use mathlib.Core.Bool.{false}
use mathlib.Core.List.{List, [], ◌∷◌, ◌++◌}
use Prim.Native.Nat.{ℕ, zero, suc, ◌^◌, ◌≤◌, ◌<◌}
use native.Mathlib.Nat.{add-zero}
use native.Mathlib.Omega.{arith}
use lib.ListN.{length, take}
use Rattle.base.specs.Bytes.{Record}
use Rattle.base.specs.Said.{Said, gives, refuses, and_then}
use Rattle.base.specs.Row.{Row}
use Rattle.base.proofs.Row.{row-zip}
use Rattle.base.specs.All.{All}
use Rattle.record_entry.specs.declared.MBRPartitionEntry.{MBRPartitionEntry}
use Rattle.record_entry.specs.Entry.{extended, end_of}
use Rattle.record_mbr.specs.Mbr.{extended_of}
use Rattle.extract.specs.Disk.{Disk, Store, stored, after}
use Rattle.table.specs.declared.LogicalPartition.{LogicalPartition}
use Rattle.table.specs.Table.{most, parts}
use Rattle.chain.specs.Chain.{first_link}
use Rattle.chain.specs.Facts.{View, seen, at, link_in, Held, Plain, Empty, Holds}
use Rattle.read_align.specs.Align.{used_starts}
use Rattle.read_table.specs.Read.{Table, header_on, read}
use Rattle.read_table.specs.Facts.{Reads}
use Rattle.read_table.proofs.Facts.{reads→read, read→reads, header-same}
use Rattle.sound.specs.Is.{Pairs}
use Rattle.sound.specs.Sound.{Contents, primaries_of, extended_entry, Used, Extended, Apart, FirstAt, Sound}
use Rattle.sound.proofs.Good.{Good, area_of, resound, extended-used, ext-go, ext-all}
use Rattle.careful.specs.Careful.{contents, relist}
use Rattle.careful.specs.Demand3.{contents_on, In, ClearOf, Safe}
use Rattle.careful.proofs.Places.{Fit, fit_of, before-fit, Over, Under, row-over, row_under}
use Rattle.careful.proofs.Aligned.{Aligned, aligned}

-- what a disk holds of a table
pub record Shows (d : Disk) (t : Contents) : Type 0 where
  pub width : d.width ≡ t.width
  pub size : d.size ≡ t.size
  pub header : header_on d ≡ gives t.header
  pub holds : Holds (seen d) (extended_entry t) t.logicals

pub read→shows : (d : Disk) (t : Table) → read d ≡ gives t → Shows d (contents t)
read→shows d t e =
    let r : Reads d t = read→reads d t e in
    record { width = r.width; size = r.size; header = r.header; holds = r.holds }

pub read→contents : (d : Disk) (t : Table) → read d ≡ gives t → contents_on d ≡ gives (contents t)
unfolding contents_on
read→contents d t e = rw e

pub contents→shows : (d : Disk) (t : Contents) → contents_on d ≡ gives t → Shows d t
unfolding contents_on
contents→shows d t h = go (read d) refl h
  where
    go : (s : Said Table) → read d ≡ s → and_then s (λ u. gives (contents u)) ≡ gives t → Shows d t
    go (gives u) e k =
        let z : contents u ≡ t = cc in
        subst (Shows d) z (read→shows d u e)
    go (refuses j) e k = let w : ◌≡◌ {A = ℕ} 0 1 = cc in absurd (omega arith)

pub shows→contents : (d : Disk) (t : Contents) → Shows d t → Aligned (used_starts (primaries_of t ++ parts t.logicals)) → contents_on d ≡ gives t
shows→contents d t s a =
    let u : Table = record { width = t.width; size = t.size; header = t.header; logicals = t.logicals; align = a.align } in
    let r : Reads d u = record { width = s.width; size = s.size; header = s.header; holds = s.holds; align = a.found } in
    read→contents d u (reads→read d u r)

-- the first of a list that is not empty is at X, and known as the first
abbrev pub Heads : MBRPartitionEntry → List LogicalPartition → Type 0
Heads e [] = ⊥
Heads e (l ∷ ls) = (at l ≡ e.starting_lba) × (link_in l ≡ first_link e)

pub heads-first : (e : MBRPartitionEntry) (ls : List LogicalPartition) → Heads e ls → FirstAt e.starting_lba ls
heads-first e [] h = tt
heads-first e (l ∷ ls) h = h.0

pub heads-swap : (e : MBRPartitionEntry) (ls : List LogicalPartition) (l : LogicalPartition) (ms ns : List LogicalPartition) → Heads e (ls ++ l ∷ ms) → Heads e (ls ++ l ∷ ns)
heads-swap e [] l ms ns h = h
heads-swap e (x ∷ xs) l ms ns h = h

-- what reading a table gives of its chain
pub holds-held : (v : ℕ → View) (e : MBRPartitionEntry) (ls : List LogicalPartition) → Holds v (Some e) ls → Row (Held v e.starting_lba) ls None
holds-held v e [] h = tt
holds-held v e (l ∷ ls) h = h.held

pub holds-heads : (v : ℕ → View) (e : MBRPartitionEntry) (l : LogicalPartition) (ls : List LogicalPartition) → Holds v (Some e) (l ∷ ls) → Heads e (l ∷ ls)
holds-heads v e l ls h = (h.begins.0 ∙ add-zero e.starting_lba, h.begins.1)

pub holds-heads-at : (v : ℕ → View) (e : MBRPartitionEntry) (ls : List LogicalPartition) (l : LogicalPartition) (ms : List LogicalPartition) → Holds v (Some e) (ls ++ l ∷ ms)
    → Heads e (ls ++ l ∷ ms)
holds-heads-at v e [] l ms h = holds-heads v e l ms h
holds-heads-at v e (x ∷ xs) l ms h = holds-heads v e x (xs ++ l ∷ ms) h

pub plain_of : (X hi : ℕ) (l : LogicalPartition) (ls : List LogicalPartition) → at l ≡ X → hi < 2 ^ 32 → Row (Fit hi) (l ∷ ls) None → Row (Plain X) (l ∷ ls) None
plain_of X hi l ls e h f =
    row-zip (λ x n. Fit hi x n × Over X x n) (Under hi) (Plain X)
    (λ x n p q. record { inside = p.1; after = p.0.start; fits = omega (arith, p.0.cover); before = before-fit hi x n p.0 })
    (l ∷ ls) None
    (row-zip (Fit hi) (Over X) (λ x n. Fit hi x n × Over X x n) (λ x n p q. (p, q)) (l ∷ ls) None f (row-over hi X l ls None f (omega arith)))
    (row_under hi hi (l ∷ ls) None f (omega arith))

-- the disk `d'` keeps sector 0 of `d`, which reads as the sound table `t` with the extended entry `e`
module _ (d d' : Disk) (t : Contents) (e : MBRPartitionEntry) (r : Shows d t) (s : Sound t) (small : t.size < 2 ^ 32) (x : extended_entry t ≡ Some e)
    (width : d'.width ≡ d.width) (size : d'.size ≡ d.size) (zeroth : d'.sector 0 ≡ d.sector 0) where
  shown : (ls : List LogicalPartition) → Holds (seen d') (Some e) ls → contents_on d' ≡ gives (relist t ls)
  unfolding relist
  shown ls h =
      shows→contents d' (relist t ls)
      (record { width = width ∙ r.width; size = size ∙ r.size; header = header-same d' d size zeroth ∙ r.header; holds = rw x h })
      (aligned e (primaries_of t) (parts ls) x (area_of t e s x).start)

  pub rebuilt : (ls : List LogicalPartition) → Heads e ls → Row (Good (end_of e)) ls None → Row (Held (seen d') e.starting_lba) ls None → length ls ≤ most
      → contents_on d' ≡ gives (relist t ls)
  rebuilt [] f g h n = absurd f
  rebuilt (l ∷ ls) f g h n =
      shown (l ∷ ls)
      (record {
        begins = (f.0 ∙ sym (add-zero e.starting_lba), f.1);
        held = h;
        plain = plain_of e.starting_lba (end_of e) l ls f.0 (omega (arith, (area_of t e s x).ends)) (fit_of (end_of e) (l ∷ ls) None g);
        few = n;
      })

  pub rebuilt-empty : Empty (seen d' e.starting_lba) → contents_on d' ≡ gives (relist t [])
  rebuilt-empty h = shown [] h

pub relist-sound : (t : Contents) (e : MBRPartitionEntry) → Sound t → extended_entry t ≡ Some e → (ls : List LogicalPartition) → FirstAt e.starting_lba ls
    → Row (Good (end_of e)) ls None → Sound (relist t ls)
unfolding relist
relist-sound t e s x ls f g = resound (end_of e) t e refl s x ls f g

pub relist-same : (t : Contents) (ls : List LogicalPartition) → t.logicals ≡ ls → relist t ls ≡ t
unfolding relist
relist-same t ls q = λ i. record { width = t.width; size = t.size; header = t.header; logicals = sym q i }

-- a sector of the extended partition is in no data partition of the primaries
abbrev pub Miss : ℕ → MBRPartitionEntry → Type 0
Miss a p = Used p → ¬ (Extended p) → ¬ (In a p)

apart_in : (p q : MBRPartitionEntry) → (end_of p ≤ q.starting_lba) ⊎ (end_of q ≤ p.starting_lba) → (a : ℕ) → In a p → In a q → ⊥
apart_in p q (inl h) a i j = omega (arith, i.high, j.low)
apart_in p q (inr h) a i j = omega (arith, i.low, j.high)

miss-all : (a : ℕ) (e : MBRPartitionEntry) (ps : List MBRPartitionEntry) → Used e → In a e → All (Apart e) ps → All (Miss a) ps
miss-all a e [] u i h = tt
miss-all a e (p ∷ ps) u i h = ((λ v n j. apart_in e p (h.0 u v) a i j), miss-all a e ps u i h.1)

ext-miss : (a : ℕ) (e : MBRPartitionEntry) (ps : List MBRPartitionEntry) → Pairs Apart ps → extended_of ps ≡ Some e → In a e → All (Miss a) ps
unfolding extended_of
ext-miss a e [] h q i = tt
ext-miss a e (p ∷ ps) h q i = go (ext-miss a e ps h.1) (ext-go (λ z. Unit {0}) e p ps (extended p.sys) refl q)
  where
    go : (extended_of ps ≡ Some e → In a e → All (Miss a) ps) → ((p ≡ e) × Extended p) ⊎ ((extended p.sys ≡ false) × (extended_of ps ≡ Some e))
        → Miss a p × All (Miss a) ps
    go ih (inl c) =
        let ip : In a p = subst (In a) (sym c.0) i in
        ((λ u n j. n c.1), miss-all a p ps (extended-used p.sys c.1) ip h.0)
    go ih (inr c) =
        let ae : Apart p e × Extended e = ext-all (Apart p) e ps h.0 c.1 in
        ((λ u n j. apart_in p e (ae.0 u (extended-used e.sys ae.1)) a j i), ih c.1 i)

pub clear_of : (t : Contents) (e : MBRPartitionEntry) (a : ℕ) → Sound t → extended_entry t ≡ Some e → In a e → (ls : List LogicalPartition)
    → All (λ l. ¬ (In a l.partition)) ls → ClearOf a (relist t ls)
unfolding relist
clear_of t e a s x i ls h = record { primaries = ext-miss a e (primaries_of t) s.apart x i; logicals = h }

-- one store
pub safe-one : (d : Disk) (s : Store) (t t' : Contents) → contents_on d ≡ gives t → contents_on (stored d s) ≡ gives t' → ClearOf s.lba t → ClearOf s.lba t'
    → Sound t' → Record s.bytes → s.lba < d.size → Safe d t (record { stores = s ∷ []; result = t' })
unfolding after
safe-one d s t t' r r' c c' o i h = record {
  number = inl refl;
  records = (i, tt);
  inside = (h, tt);
  stops = go;
  done = r';
  clear = ((c, c'), tt);
  sound = o;
}
  where
    go : (k : ℕ) → (contents_on (after d (take k (s ∷ []))) ≡ gives t) ⊎ (contents_on (after d (take k (s ∷ []))) ≡ gives t')
    go zero = inl r
    go (suc zero) = inr r'
    go (suc (suc k)) = inr r'

-- two
pub safe-two : (d : Disk) (s u : Store) (t t' : Contents) → contents_on d ≡ gives t → contents_on (stored d s) ≡ gives t → contents_on (stored (stored d s) u) ≡ gives t'
    → ClearOf s.lba t × ClearOf s.lba t' → ClearOf u.lba t × ClearOf u.lba t' → Sound t' → Record s.bytes → Record u.bytes → s.lba < d.size → u.lba < d.size
    → Safe d t (record { stores = s ∷ u ∷ []; result = t' })
unfolding after
safe-two d s u t t' r r' r'' c b o i j h k = record {
  number = inr refl;
  records = (i, (j, tt));
  inside = (h, (k, tt));
  stops = go;
  done = r'';
  clear = (c, (b, tt));
  sound = o;
}
  where
    go : (k : ℕ) → (contents_on (after d (take k (s ∷ u ∷ []))) ≡ gives t) ⊎ (contents_on (after d (take k (s ∷ u ∷ []))) ≡ gives t')
    go zero = inl r
    go (suc zero) = inl r'
    go (suc (suc zero)) = inr r''
    go (suc (suc (suc k))) = inr r''
