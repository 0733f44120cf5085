-- Careful push behind an EBR of the chain: the new EBR first, then the one before it with a link to it. Assumes nothing.
use mathlib.Core.Path.{◌≡◌, ap, subst, ◌∙◌}
use mathlib.Core.Logic.{◌⊎◌, inl, inr}
use Rattle.std.specs.Prelude.{Option, None, Some}
use mathlib.Core.List.{List, [], ◌∷◌, ◌++◌}
use Prim.Native.Nat.{ℕ, ◌^◌, ◌≤◌, ◌<◌}
use native.Mathlib.Omega.{arith}
use lib.ListN.{length}
use Rattle.base.specs.Said.{gives}
use Rattle.base.specs.Row.{next, Row}
use Rattle.base.proofs.Row.{row-left, row-right, row-join}
use Rattle.base.specs.All.{All}
use Rattle.record_chs.specs.declared.CHS.{CHS}
use Rattle.record_chs.specs.Chs.{ChsOk}
use Rattle.record_entry.specs.declared.MBRPartitionEntry.{MBRPartitionEntry}
use Rattle.record_entry.specs.Entry.{end_of}
use Rattle.record_ebr.specs.Ebr.{KeptOk}
use Rattle.extract.specs.Disk.{Disk, Store, stored}
use Rattle.extract.proofs.Disk.{sector-other, size-stored, width-stored}
use Rattle.table.specs.declared.LogicalPartition.{LogicalPartition}
use Rattle.table.specs.Table.{most}
use Rattle.chain.specs.Facts.{seen, at, link_in, body_of, leads, Held}
use Rattle.sound.specs.Sound.{Contents, extended_entry, end, Sound}
use Rattle.sound.proofs.Good.{Good, Span}
use Rattle.sound.proofs.Test.{is-flag}
use Rattle.chain.specs.Links.{write}
use Rattle.careful.specs.Careful.{relist}
use Rattle.careful.specs.Demand3.{contents_on, In, ClearOf, Safe}
use Rattle.careful.proofs.Places.{Fit, good-fit, fit_of, Clear, Off, clear-under, clear-over, off-under, off-over, all_of, all-skip}
use Rattle.careful.proofs.Written.{BodyOk, NextOk, image, Put, write-put, write-record, held-off, relink}
use Rattle.careful.proofs.Shown.{Shows, Heads, heads-first, heads-swap, rebuilt, relist-sound, relist-same, clear_of, safe-two}
use Rattle.careful.proofs.Split.{Split}

-- a partition that an EBR can hold
pub record Writable (l : LogicalPartition) : Type 0 where
  pub kept : KeptOk l.kept
  pub sys : l.partition.sys < 256
  pub first : ChsOk l.partition.first_chs
  pub last : ChsOk l.partition.last_chs

flag_small : (e : MBRPartitionEntry) → (e.boot ≡ 0) ⊎ (e.boot ≡ 128) → e.boot < 256
flag_small e (inl h) = omega arith
flag_small e (inr h) = omega arith

pub body_ok : (hi : ℕ) (l : LogicalPartition) (n : Option LogicalPartition) → Good hi l n → Writable l → end l < 2 ^ 32 → BodyOk (body_of l)
unfolding body_of
body_ok hi l n g w h =
    let c : end_of l.partition ≤ end l = (good-fit hi l n g).cover in
    record {
      kept = w.kept;
      flag = (is-flag l.partition).from g.own.flag;
      part = record {
        boot = flag_small l.partition g.own.flag;
        first = w.first;
        sys = w.sys;
        last = w.last;
        start = omega arith;
        sectors = omega arith;
      };
    }

-- and a link to it
pub record Linkable (l : LogicalPartition) : Type 0 where
  pub tail : CHS
  pub last : l.ebr_last_chs ≡ Some tail
  pub first-ok : ChsOk l.ebr_first_chs
  pub last_ok : ChsOk tail

pub leads-ok : (X hi : ℕ) (m : LogicalPartition) → Span hi m → Linkable m → X < at m → hi < 2 ^ 32 → NextOk (leads X (Some m))
unfolding link_in
leads-ok X hi m k o h s = record {
  span = k.span;
  tail = o.tail;
  sectors = k.sectors;
  last = o.last;
  above = omega arith;
  small = omega (arith, k.ends);
  span_small = omega (arith, k.ends);
  first-ok = o.first-ok;
  last_ok = o.last_ok;
}

-- the new partition `new` fits behind `l` and before `ms`
pub record Room (e : MBRPartitionEntry) (ls : List LogicalPartition) (l : LogicalPartition) (ms : List LogicalPartition) (new : LogicalPartition) : Type 0 where
  pub room : end l ≤ at new
  pub good : Good (end_of e) new (next ms None)
  pub link : Span (end_of e) new
  pub writable : Writable new
  pub linkable : Linkable new
  pub few : length (ls ++ l ∷ new ∷ ms) ≤ most

module _ (d : Disk) (t : Contents) (e : MBRPartitionEntry) (ls : List LogicalPartition) (l : LogicalPartition) (ms : List LogicalPartition) (new : LogicalPartition)
    (small : t.size < 2 ^ 32) (now : contents_on d ≡ gives t) (r : Shows d t) (s : Sound t) (x : extended_entry t ≡ Some e)
    (c : Split d e t.size ls l ms) (q : t.logicals ≡ ls ++ l ∷ ms) (k : Room e ls l ms new) where
  abbrev X : ℕ
  X = e.starting_lba

  abbrev hi : ℕ
  hi = end_of e

  abbrev one : Store
  one = write e new (next ms None)

  abbrev two : Store
  two = write e l (Some new)

  abbrev d₁ : Disk
  d₁ = stored d one

  abbrev d₂ : Disk
  d₂ = stored d₁ two

  fit-new : Fit hi new (next ms None)
  fit-new = good-fit hi new (next ms None) k.good

  end-new : end new ≤ hi
  end-new = omega (arith, k.link.covers, k.link.ends)

  body_new : BodyOk (body_of new)
  body_new = body_ok hi new (next ms None) k.good k.writable (omega (arith, end-new, c.area.ends))

  leads-new : NextOk (leads X (Some new))
  leads-new = leads-ok X hi new k.link k.linkable (omega (arith, c.low, k.room, c.fit.above)) (omega (arith, c.area.ends))

  inside-new : at new < d.size
  inside-new = omega (arith, end-new, fit-new.above, c.area.ends, c.size)

  inside-l : at l < d.size
  inside-l = omega (arith, inside-new, k.room, c.fit.above)

  put₁ : Put (seen d) (at new) (image X new (next ms None)) (seen d₁)
  put₁ = write-put d e new (next ms None) inside-new c.sys body_new c.leads_ok

  put₂ : Put (seen d₁) (at l) (image X l (Some new)) (seen d₂)
  put₂ = write-put d₁ e l (Some new) (rw (size-stored d one) inside-l) c.sys c.body leads-new

  fits-ls : Row (Fit hi) ls (Some l)
  fits-ls = fit_of hi ls (Some l) c.goods

  off-ms : (ns : List LogicalPartition) → Fit hi new (next ns None) → Row (Fit hi) ns None → Row (Off (at new)) ns None
  off-ms [] f g = tt
  off-ms (m ∷ ns) f g = off-over hi (at new) m ns None g (omega (arith, f.above, f.ends))

  off-new : Row (Off (at new)) (ls ++ l ∷ ms) None
  off-new =
      row-join (Off (at new)) ls (l ∷ ms) None
      (off-under hi (at new) ls (Some l) fits-ls (omega (arith, k.room, c.fit.above)))
      (omega (arith, k.room, c.fit.above), off-ms ms fit-new (fit_of hi ms None c.rest))

  held₁ : Row (Held (seen d₁) X) (ls ++ l ∷ ms) None
  held₁ = held-off X (seen d) (seen d₁) (at new) _ put₁ (ls ++ l ∷ ms) None off-new (row-join (Held (seen d) X) ls (l ∷ ms) None c.held (c.here, c.tail))

  good₁ : Row (Good hi) (ls ++ l ∷ ms) None
  good₁ = row-join (Good hi) ls (l ∷ ms) None c.goods (c.good, c.rest)

  good₂ : Row (Good hi) (ls ++ l ∷ new ∷ ms) None
  good₂ =
      row-join (Good hi) ls (l ∷ new ∷ ms) None c.goods
      (record { own = c.good.own; place = c.good.place; ends = k.room; linked = k.link }, (k.good, c.rest))

  fits₂ : Row (Fit hi) (l ∷ new ∷ ms) None
  fits₂ = fit_of hi (l ∷ new ∷ ms) None (row-right (Good hi) ls (l ∷ new ∷ ms) None good₂)

  held₂ : Row (Held (seen d₂) X) (ls ++ l ∷ new ∷ ms) None
  held₂ =
      relink X hi ls l (new ∷ ms) (seen d₁) (seen d₂) put₂ fits-ls fits₂ (row-left (Held (seen d₁) X) ls (l ∷ ms) None held₁)
      (put₁.same, (row-right (Held (seen d₁) X) ls (l ∷ ms) None held₁).1)

  heads₂ : Heads e (ls ++ l ∷ new ∷ ms)
  heads₂ = heads-swap e ls l ms (new ∷ ms) c.first

  zeroth₁ : d₁.sector 0 ≡ d.sector 0
  unfolding write
  zeroth₁ = sector-other d one 0 (omega (arith, c.low, c.area.start, k.room, c.fit.above))

  zeroth₂ : d₂.sector 0 ≡ d.sector 0
  unfolding write
  zeroth₂ = sector-other d₁ two 0 (omega (arith, c.low, c.area.start)) ∙ zeroth₁

  reads₁ : contents_on d₁ ≡ gives t
  reads₁ = rebuilt d d₁ t e r s small x (width-stored d one) (size-stored d one) zeroth₁ (ls ++ l ∷ ms) c.first good₁ held₁ c.few ∙ ap gives (relist-same t (ls ++ l ∷ ms) q)

  reads₂ : contents_on d₂ ≡ gives (relist t (ls ++ l ∷ new ∷ ms))
  reads₂ =
      rebuilt d d₂ t e r s small x (width-stored d₁ two ∙ width-stored d one) (size-stored d₁ two ∙ size-stored d one) zeroth₂ (ls ++ l ∷ new ∷ ms) heads₂ good₂ held₂ k.few

  -- no store on data
  clear-new : Row (Clear (at new)) (ls ++ l ∷ new ∷ ms) None
  clear-new =
      row-join (Clear (at new)) ls (l ∷ new ∷ ms) None
      (clear-under hi (at new) ls (Some l) fits-ls (omega (arith, k.room, c.fit.above)))
      ((λ h. omega (arith, h.high, c.fit.cover, k.room)), clear-over hi (at new) new ms None fits₂.1 (omega arith))

  clear-l : Row (Clear (at l)) (ls ++ l ∷ new ∷ ms) None
  clear-l =
      row-join (Clear (at l)) ls (l ∷ new ∷ ms) None (clear-under hi (at l) ls (Some l) fits-ls (omega arith))
      (clear-over hi (at l) l (new ∷ ms) None fits₂ (omega arith))

  clear-pair : (a : ℕ) → X ≤ a → a < hi → Row (Clear a) (ls ++ l ∷ new ∷ ms) None → ClearOf a t × ClearOf a (relist t (ls ++ l ∷ new ∷ ms))
  clear-pair a lo up h =
      let i : In a e = record { low = lo; high = up } in
      let all : All (λ y. ¬ (In a y.partition)) (ls ++ l ∷ new ∷ ms) = all_of a (ls ++ l ∷ new ∷ ms) None h in
      let old : ClearOf a (relist t (ls ++ l ∷ ms)) = clear_of t e a s x i (ls ++ l ∷ ms) (all-skip (λ y. ¬ (In a y.partition)) ls l new ms all) in
      (subst (ClearOf a) (relist-same t (ls ++ l ∷ ms) q) old, clear_of t e a s x i (ls ++ l ∷ new ∷ ms) all)

  pub push-safe : Safe d t (record { stores = write e new (next ms None) ∷ write e l (Some new) ∷ []; result = relist t (ls ++ l ∷ new ∷ ms) })
  unfolding write
  push-safe =
      safe-two d one two t (relist t (ls ++ l ∷ new ∷ ms)) now reads₁ reads₂
      (clear-pair (at new) (omega (arith, c.low, k.room, c.fit.above)) (omega (arith, fit-new.above, end-new)) clear-new)
      (clear-pair (at l) c.low (omega (arith, k.room, c.fit.above, fit-new.above, end-new)) clear-l)
      (relist-sound t e s x (ls ++ l ∷ new ∷ ms) (heads-first e (ls ++ l ∷ new ∷ ms) heads₂) good₂)
      (write-record e new (next ms None) c.sys body_new c.leads_ok) (write-record e l (Some new) c.sys c.body leads-new) inside-new inside-l
