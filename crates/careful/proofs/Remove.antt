-- Careful removal behind an EBR of the chain, and every change that is one store at the start of the extended partition. Assumes nothing.
use mathlib.Core.Path.{◌≡◌, refl, sym, subst, ◌∙◌}
use mathlib.Core.Logic.{inl, inr}
use mathlib.Core.Bool.{true}
use Rattle.std.specs.Prelude.{Option, None, Some}
use mathlib.Core.List.{List, [], ◌∷◌, ◌++◌}
use Prim.Native.Nat.{ℕ, ◌^◌, ◌≤◌, ◌<◌}
use native.Mathlib.Omega.{arith}
use lib.ListN.{length, length-append}
use Rattle.base.specs.Said.{gives}
use Rattle.base.specs.Checks.{answer}
use Rattle.base.specs.Row.{next, Row}
use Rattle.base.proofs.Row.{row-join}
use Rattle.base.specs.All.{All}
use Rattle.record_entry.specs.declared.MBRPartitionEntry.{MBRPartitionEntry}
use Rattle.record_entry.specs.Entry.{end_of}
use Rattle.record_ebr.specs.Ebr.{ebr_checks, ebr_of}
use Rattle.extract.specs.Disk.{Disk, Store, stored}
use Rattle.extract.specs.Extract.{blank}
use Rattle.extract.proofs.Disk.{sector-other, size-stored, width-stored, record-blank}
use Rattle.table.specs.declared.LogicalPartition.{LogicalPartition}
use Rattle.table.specs.Table.{most}
use Rattle.chain.specs.Facts.{bad, viewed, seen, at, link_in, body_of, leads, Held}
use Rattle.sound.specs.Sound.{Contents, extended_entry, vacantb, end, Sound}
use Rattle.sound.proofs.Good.{Zone, Place, Good, zone-end, vacant-end, Area, area_of, extended-small}
use Rattle.chain.specs.Links.{write}
use Rattle.careful.specs.Stores.{wipe, moved}
use Rattle.careful.specs.Careful.{relist}
use Rattle.careful.specs.Demand3.{contents_on, In, ClearOf, Safe}
use Rattle.careful.proofs.Places.{Fit, fit_of, Clear, clear-under, clear-over, all_of, all-skip, all_join}
use Rattle.careful.proofs.Written.{BodyOk, NextOk, image, Put, store-put, write-put, write-record, relink}
use Rattle.careful.proofs.Shown.{Shows, Heads, heads-first, heads-swap, rebuilt, rebuilt-empty, relist-sound, relist-same, clear_of, safe-one}
use Rattle.careful.proofs.Split.{Split}
use Rattle.careful.proofs.Push.{Writable, body_ok}

-- `y` behind `l` removed: the EBR of `l` leads past it
module _ (d : Disk) (t : Contents) (e : MBRPartitionEntry) (ls : List LogicalPartition) (l y : LogicalPartition) (ms : List LogicalPartition)
    (small : t.size < 2 ^ 32) (now : contents_on d ≡ gives t) (r : Shows d t) (s : Sound t) (x : extended_entry t ≡ Some e)
    (c : Split d e t.size ls l (y ∷ ms)) (c' : Split d e t.size (ls ++ l ∷ []) y ms) (q : t.logicals ≡ ls ++ l ∷ y ∷ ms) where
  abbrev X : ℕ
  X = e.starting_lba

  abbrev hi : ℕ
  hi = end_of e

  abbrev one : Store
  one = write e l (next ms None)

  abbrev d₁ : Disk
  d₁ = stored d one

  goods : Row (Good hi) (l ∷ ms) None
  goods = (
    record {
      own = c.good.own;
      place = c.good.place;
      ends = omega (arith, c.good.ends, c'.fit.above, c'.good.ends);
      linked = c'.good.linked;
    },
    c'.rest,
  )

  good₁ : Row (Good hi) (ls ++ l ∷ ms) None
  good₁ = row-join (Good hi) ls (l ∷ ms) None c.goods goods

  fits-ls : Row (Fit hi) ls (Some l)
  fits-ls = fit_of hi ls (Some l) c.goods

  inside : at l < hi
  inside = omega (arith, c.high, c.fit.above)

  on-disk : at l < d.size
  on-disk = omega (arith, inside, c.area.ends, c.size)

  put₁ : Put (seen d) (at l) (image X l (next ms None)) (seen d₁)
  put₁ = write-put d e l (next ms None) on-disk c.sys c.body c'.leads_ok

  held₁ : Row (Held (seen d₁) X) (ls ++ l ∷ ms) None
  held₁ = relink X hi ls l ms (seen d) (seen d₁) put₁ fits-ls (fit_of hi (l ∷ ms) None goods) c.held c.tail.1

  heads₁ : Heads e (ls ++ l ∷ ms)
  heads₁ = heads-swap e ls l (y ∷ ms) ms c.first

  zeroth₁ : d₁.sector 0 ≡ d.sector 0
  unfolding write
  zeroth₁ = sector-other d one 0 (omega (arith, c.low, c.area.start))

  fewer : length (ls ++ l ∷ ms) ≤ most
  fewer = omega (arith, c.few, length-append ls (l ∷ ms), length-append ls (l ∷ y ∷ ms))

  reads₁ : contents_on d₁ ≡ gives (relist t (ls ++ l ∷ ms))
  reads₁ = rebuilt d d₁ t e r s small x (width-stored d one) (size-stored d one) zeroth₁ (ls ++ l ∷ ms) heads₁ good₁ held₁ fewer

  -- no store on data
  clear-l : Row (Clear (at l)) (ls ++ l ∷ y ∷ ms) None
  clear-l =
      row-join (Clear (at l)) ls (l ∷ y ∷ ms) None (clear-under hi (at l) ls (Some l) fits-ls (omega arith))
      (clear-over hi (at l) l (y ∷ ms) None (fit_of hi (l ∷ y ∷ ms) None (c.good, c.rest)) (omega arith))

  pub remove-safe : Safe d t (record { stores = write e l (next ms None) ∷ []; result = relist t (ls ++ l ∷ ms) })
  unfolding write
  remove-safe =
      let i : In (at l) e = record { low = c.low; high = inside } in
      let all : All (λ z. ¬ (In (at l) z.partition)) (ls ++ l ∷ y ∷ ms) = all_of (at l) (ls ++ l ∷ y ∷ ms) None clear-l in
      let old : ClearOf (at l) (relist t (ls ++ l ∷ y ∷ ms)) = clear_of t e (at l) s x i (ls ++ l ∷ y ∷ ms) all in
      safe-one d one t (relist t (ls ++ l ∷ ms)) now reads₁ (subst (ClearOf (at l)) (relist-same t (ls ++ l ∷ y ∷ ms) q) old)
      (clear_of t e (at l) s x i (ls ++ l ∷ ms) (all-skip (λ z. ¬ (In (at l) z.partition)) ls l y ms all))
      (relist-sound t e s x (ls ++ l ∷ ms) (heads-first e (ls ++ l ∷ ms) heads₁) good₁) (write-record e l (next ms None) c.sys c.body c'.leads_ok) on-disk

-- one store at X, which then holds `n`, before the tail `ms` of the chain that was there
module _ (d : Disk) (t : Contents) (e : MBRPartitionEntry) (ks : List LogicalPartition) (n : LogicalPartition) (ms : List LogicalPartition)
    (small : t.size < 2 ^ 32) (now : contents_on d ≡ gives t) (r : Shows d t) (s : Sound t) (x : extended_entry t ≡ Some e) (q : t.logicals ≡ ks ++ ms)
    (first : Heads e (n ∷ ms)) (good : Row (Good (end_of e)) (n ∷ ms) None) (held : Row (Held (seen d) e.starting_lba) ms None)
    (few : length (n ∷ ms) ≤ most) (body : BodyOk (body_of n)) (leads_to : NextOk (leads e.starting_lba (next ms None)))
    (apart : All (λ z. ¬ (In e.starting_lba z.partition)) ks) where
  abbrev store : Store
  store = write e n (next ms None)

  area : Area t.size e
  area = area_of t e s x

  sys : e.sys < 256
  sys = extended-small e.sys area.ext

  fits : Row (Fit (end_of e)) (n ∷ ms) None
  fits = fit_of (end_of e) (n ∷ ms) None good

  at_x : at n < d.size
  at_x = omega (arith, first.0, area.ends, area.size, r.size)

  held₂ : Row (Held (seen (stored d store)) e.starting_lba) (n ∷ ms) None
  held₂ = relink e.starting_lba (end_of e) [] n ms (seen d) (seen (stored d store)) (write-put d e n (next ms None) at_x sys body leads_to) tt fits tt held

  zeroth₂ : (stored d store).sector 0 ≡ d.sector 0
  unfolding write
  zeroth₂ = sector-other d store 0 (omega (arith, first.0, area.start))

  pub head-safe : Safe d t (record { stores = write e n (next ms None) ∷ []; result = relist t (n ∷ ms) })
  unfolding write
  head-safe =
      let i : In (at n) e = record { low = omega (arith, first.0); high = omega (arith, first.0, area.size) } in
      let all : All (λ z. ¬ (In (at n) z.partition)) (n ∷ ms) = all_of (at n) (n ∷ ms) None (clear-over (end_of e) (at n) n ms None fits (omega arith)) in
      let old : All (λ z. ¬ (In (at n) z.partition)) ks = subst (λ a. All (λ z. ¬ (In a z.partition)) ks) (sym first.0) apart in
      let was : ClearOf (at n) (relist t (ks ++ ms)) = clear_of t e (at n) s x i (ks ++ ms) (all_join (λ z. ¬ (In (at n) z.partition)) ks ms old all.1) in
      safe-one d store t (relist t (n ∷ ms)) now
      (rebuilt d (stored d store) t e r s small x (width-stored d store) (size-stored d store) zeroth₂ (n ∷ ms) first good held₂ few)
      (subst (ClearOf (at n)) (relist-same t (ks ++ ms) q) was) (clear_of t e (at n) s x i (n ∷ ms) all) (relist-sound t e s x (n ∷ ms) first.0 good)
      (write-record e n (next ms None) sys body leads_to) at_x

-- the first-place rule
pub moved-heads : (e : MBRPartitionEntry) (l : LogicalPartition) (ls : List LogicalPartition) → Heads e (moved e l ∷ ls)
unfolding moved link_in
moved-heads e l ls = (refl, refl)

-- what is moved to X keeps its kind and its end: a zone, or what is there already
pub record Stays (e : MBRPartitionEntry) (m : LogicalPartition) : Type 0 where
  pub place : Place (moved e m)
  pub ends : end (moved e m) ≡ end m

pub zone-stays : (e : MBRPartitionEntry) (m : LogicalPartition) → e.starting_lba ≤ at m → Zone m → Stays e m
unfolding moved
zone-stays e m h z =
    let w : Zone (moved e m) = record { used = z.used; after = omega (arith, z.after); size = z.size } in
    record { place = inl w; ends = zone-end (moved e m) w ∙ sym (zone-end m z) }

pub first-stays : (e : MBRPartitionEntry) (m : LogicalPartition) → at m ≡ e.starting_lba → Place m → Stays e m
unfolding moved vacantb
first-stays e m h (inl z) = zone-stays e m (omega arith) z
first-stays e m h (inr v) =
    let w : vacantb (moved e m) ≡ true = rw (← h) v in
    record { place = inr w; ends = omega (arith, vacant-end (moved e m) w, vacant-end m v) }

pub moved-good : (e : MBRPartitionEntry) (D : ℕ) (m : LogicalPartition) (n : Option LogicalPartition) → Area D e → Stays e m → Good (end_of e) m n → Good (end_of e) (moved e m) n
unfolding moved
moved-good e D m n a s g = record {
  own = record { flag = g.own.flag; chs = (g.own.chs.0, (a.chs.0, tt)); plain = g.own.plain };
  place = s.place;
  ends = omega (arith, s.ends, g.ends);
  linked = g.linked;
}

pub moved-writable : (e : MBRPartitionEntry) (m : LogicalPartition) → Writable m → Writable (moved e m)
unfolding moved
moved-writable e m w = record { kept = w.kept; sys = w.sys; first = w.first; last = w.last }

writable-of : (m : LogicalPartition) → BodyOk (body_of m) → Writable m
unfolding body_of
writable-of m b = record { kept = b.kept; sys = b.part.sys; first = b.part.first; last = b.part.last }

-- the first removed: X now describes the second
pub remove-first-safe : (d : Disk) (t : Contents) (e : MBRPartitionEntry) (y m : LogicalPartition) (ms : List LogicalPartition) → t.size < 2 ^ 32 → contents_on d ≡ gives t → Shows d t → Sound t
    → extended_entry t ≡ Some e → t.logicals ≡ y ∷ m ∷ ms → Split d e t.size [] y (m ∷ ms) → Split d e t.size (y ∷ []) m ms
    → Safe d t (record { stores = write e (moved e m) (next ms None) ∷ []; result = relist t (moved e m ∷ ms) })
remove-first-safe d t e y m ms small now r s x q c c' =
    let z : Stays e m = zone-stays e m c'.low c.good.linked.zone in
    let g : Good (end_of e) (moved e m) (next ms None) = moved-good e t.size m (next ms None) c.area z c'.good in
    let apart : All (λ z. ¬ (In e.starting_lba z.partition)) (y ∷ m ∷ []) =
    ((λ h. omega (arith, c.fit.inner e.starting_lba h, c.low)), ((λ h. omega (arith, c'.fit.inner e.starting_lba h, c'.low)), tt)) in
    head-safe d t e (y ∷ m ∷ []) (moved e m) ms small now r s x q (moved-heads e m ms) (g, c'.rest) c'.tail (omega (arith, c.few))
    (body_ok (end_of e) (moved e m) (next ms None) g (moved-writable e m (writable-of m c'.body)) (omega (arith, z.ends, c'.high, c'.area.ends))) c'.leads_ok apart

-- the first one pushed: into an empty chain
pub push-first-safe : (d : Disk) (t : Contents) (e : MBRPartitionEntry) (n : LogicalPartition) → t.size < 2 ^ 32 → contents_on d ≡ gives t → Shows d t → Sound t → extended_entry t ≡ Some e
    → t.logicals ≡ [] → e.starting_lba ≤ at n → Zone n → Good (end_of e) n None → Writable n → Safe d t (record { stores = write e (moved e n) None ∷ []; result = relist t (moved e n ∷ []) })
push-first-safe d t e n small now r s x q h z k w =
    let a : Area t.size e = area_of t e s x in
    let g : Good (end_of e) (moved e n) None = moved-good e t.size n None a (zone-stays e n h z) k in
    head-safe d t e [] (moved e n) [] small now r s x q (moved-heads e n []) (g, tt) tt (omega arith)
    (body_ok (end_of e) (moved e n) None g (moved-writable e n w) (omega (arith, g.ends, a.ends))) tt tt

-- the only one removed: zeros at X
blank-bad : viewed (answer (ebr_checks blank) (ebr_of blank)) ≡ bad 3
blank-bad = refl

pub remove-only-safe : (d : Disk) (t : Contents) (e : MBRPartitionEntry) (y : LogicalPartition) → t.size < 2 ^ 32 → contents_on d ≡ gives t → Shows d t → Sound t
    → extended_entry t ≡ Some e → t.logicals ≡ y ∷ [] → Split d e t.size [] y [] → Safe d t (record { stores = wipe e ∷ []; result = relist t [] })
unfolding wipe
remove-only-safe d t e y small now r s x q c =
    let h : e.starting_lba < d.size = omega (arith, c.area.ends, c.area.size, c.size) in
    let p : Put (seen d) e.starting_lba (bad 3) (seen (stored d (wipe e))) = store-put d (wipe e) (bad 3) h blank-bad in
    let z : (stored d (wipe e)).sector 0 ≡ d.sector 0 = sector-other d (wipe e) 0 (omega (arith, c.area.start)) in
    let i : In e.starting_lba e = record { low = omega arith; high = omega (arith, c.area.size) } in
    let was : ClearOf e.starting_lba (relist t (y ∷ [])) = clear_of t e e.starting_lba s x i (y ∷ []) ((λ h. omega (arith, c.fit.inner e.starting_lba h, c.low)), tt) in
    safe-one d (wipe e) t (relist t []) now
    (rebuilt-empty d (stored d (wipe e)) t e r s small x (width-stored d (wipe e)) (size-stored d (wipe e)) z (rw p.same tt))
    (subst (ClearOf e.starting_lba) (relist-same t (y ∷ []) q) was) (clear_of t e e.starting_lba s x i [] tt) (relist-sound t e s x [] tt tt) record-blank h
