-- An EBR written and seen again; one store, and what a held chain is then. Assumes nothing.
use mathlib.Core.Path.{◌≡◌, refl, ap, sym, subst, ◌∙◌}
use mathlib.Core.Logic.{◌≢◌}
use Rattle.std.specs.Prelude.{Option, None, Some}
use mathlib.Core.Bool.{Bool, true, false}
use mathlib.Core.List.{List, [], ◌∷◌, ◌++◌}
use Prim.Native.Nat.{ℕ, ◌^◌, ◌<◌}
use native.Mathlib.Omega.{arith}
use lib.Dec.{eqb}
use borrow.Author.Tests.{eqb-false, ne_eqb}
use Rattle.base.specs.Pick.{pick}
use Rattle.base.specs.Bytes.{Record}
use Rattle.base.specs.Said.{gives, refuses}
use Rattle.base.specs.Checks.{answer}
use Rattle.base.specs.Row.{next, Row}
use Rattle.base.proofs.Checks.{none-fails, all_hold, checked-none}
use Rattle.base.proofs.Row.{row-zip, row-join}
use Rattle.record_chs.specs.declared.CHS.{CHS}
use Rattle.record_chs.specs.Chs.{ChsOk}
use Rattle.record_entry.specs.declared.MBRPartitionEntry.{MBRPartitionEntry}
use Rattle.record_entry.specs.Entry.{flag_ok, EntryOk}
use Rattle.record_ebr.specs.declared.EBRHeader.{EBRHeader}
use Rattle.record_ebr.specs.Ebr.{ebr_checks, ebr_read_checks, ebr_of, ebr_bytes, MarkOk, KeptOk, EbrOk}
use Rattle.record_ebr.proofs.Laws.{ebr-back, ebr-reads, ebr-record, ebr-ok}
use Rattle.extract.specs.Disk.{Disk, Store, stored}
use Rattle.extract.proofs.Disk.{sector-same, sector-other, size-stored}
use Rattle.table.specs.declared.LogicalPartition.{LogicalPartition}
use Rattle.chain.specs.Chain.{view, Link, link_of, by_link}
use Rattle.chain.specs.Facts.{Body, Next, stop, to, View, ebr, next_of, body_in, viewed, seen, at, body_of, leads, Held}
use Rattle.chain.proofs.View.{view→facts, view-inside, view-same, Seen, seen→view}
use Rattle.chain.specs.Links.{link_entry, ebr_for, write}
use Rattle.careful.specs.Demand3.{Whole}
use Rattle.careful.proofs.Places.{Fit, Off, off-under, off-over}

-- what a record can hold
pub record BodyOk (b : Body) : Type 0 where
  pub kept : KeptOk b.kept
  pub flag : flag_ok b.part ≡ true
  pub part : EntryOk b.part

pub record LinkOk (r : ℕ) (k : Link) : Type 0 where
  pub span : ℕ
  pub tail : CHS
  pub sectors : k.sectors ≡ Some span
  pub last : k.last ≡ Some tail
  pub above : 0 < r
  pub small : r < 2 ^ 32
  pub span_small : span < 2 ^ 32
  pub first-ok : ChsOk k.first
  pub last_ok : ChsOk tail

abbrev pub NextOk : Next → Type 0
NextOk stop = Unit {0}
NextOk (to r k) = LinkOk r k

-- what the EBR of `l` says where `n` follows
abbrev pub image : ℕ → LogicalPartition → Option LogicalPartition → View
image X l n = ebr (body_of l) (leads X n)

-- a link is read back
next-back : (sys : ℕ) (n : Next) → NextOk n → next_of (link_entry sys n) ≡ n
unfolding next_of link_entry
next-back sys stop k = refl
next-back sys (to r k) o =
    let z : eqb r 0 ≡ false = ne_eqb r 0 (omega (arith, o.above)) in
    let s : k.sectors ≡ Some o.span = o.sectors in
    let c : k.last ≡ Some o.tail = o.last in
    rw (z, s, c)

link-ok : (sys : ℕ) (n : Next) → sys < 256 → NextOk n → EntryOk (link_entry sys n)
unfolding link_entry
link-ok sys stop small k = record { boot = omega arith; first = omega arith; sys = omega arith; last = omega arith; start = omega arith; sectors = omega arith }
link-ok sys (to r k) small o = record {
  boot = omega arith;
  first = o.first-ok;
  sys = small;
  last = rw o.last o.last_ok;
  start = o.small;
  sectors = rw o.sectors o.span_small;
}

link-flag : (sys : ℕ) (n : Next) → flag_ok (link_entry sys n) ≡ true
unfolding link_entry
link-flag sys stop = refl
link-flag sys (to r k) = refl

module _ (e : MBRPartitionEntry) (l : LogicalPartition) (n : Option LogicalPartition) (small : e.sys < 256) (b : BodyOk (body_of l)) (k : NextOk (leads e.starting_lba n)) where
  header_ok : EbrOk (ebr_for e l n)
  unfolding ebr_for
  header_ok = record { kept = b.kept; first = b.part; second = link-ok e.sys (leads e.starting_lba n) small k }

  header-image : viewed (gives (ebr_for e l n)) ≡ image e.starting_lba l n
  unfolding ebr_for
  header-image = ap (ebr (body_of l)) (next-back e.sys (leads e.starting_lba n) k)

  abbrev written-bytes : List ℕ
  written-bytes = ebr_bytes l.kept.mark (ebr_for e l n)

  written : answer (ebr_checks written-bytes) (ebr_of written-bytes) ≡ gives (ebr_for e l n)
  unfolding ebr_for body_of
  written =
      let h : EBRHeader = ebr_for e l n in
      let m : List ℕ = l.kept.mark in
      let w : MarkOk m = b.kept.mark in
      let f = none-fails (ebr_read_checks written-bytes) (ebr-reads m h w header_ok b.flag (link-flag e.sys (leads e.starting_lba n))) in
      checked-none (ebr_checks written-bytes) refuses (gives (ebr_of written-bytes)) (all_hold (ebr_checks written-bytes) f.1) ∙ ap gives (ebr-back m h w header_ok)

  pub write-record : Record (write e l n).bytes
  unfolding write body_of
  write-record = ebr-record l.kept.mark (ebr_for e l n) b.kept.mark header_ok.kept header_ok.first header_ok.second

  -- the record seen
  pub write-seen : viewed (answer (ebr_checks (write e l n).bytes) (ebr_of (write e l n).bytes)) ≡ image e.starting_lba l n
  unfolding write
  write-seen = ap viewed written ∙ header-image

-- what is seen on a disk can be written again
next-ok : (e : MBRPartitionEntry) → EntryOk e → NextOk (next_of e)
unfolding next_of
next-ok e k = go (eqb e.starting_lba 0) refl
  where
    pos : (n : ℕ) → (n ≡ 0 → ⊥) → 0 < n
    pos n h = omega arith

    go : (t : Bool) → eqb e.starting_lba 0 ≡ t → NextOk (by_link stop (λ r. to r (link_of e)) (pick t None (Some e.starting_lba)))
    go true q = tt
    go false q = record {
      span = e.sectors;
      tail = e.last_chs;
      sectors = refl;
      last = refl;
      above = pos e.starting_lba (eqb-false e.starting_lba 0 q);
      small = k.start;
      span_small = k.sectors;
      first-ok = k.first;
      last_ok = k.last;
    }

pub seen-ok : (d : Disk) → Whole d → (a : ℕ) (b : Body) (n : Next) → seen d a ≡ ebr b n → (a < d.size) × BodyOk b × NextOk n
seen-ok d w a b n e =
    let s : Seen (view d a) b n = seen→view (view d a) b n e in
    let f = view→facts d a s.header s.is in
    let o : EbrOk s.header = subst EbrOk f.1 (ebr-ok (d.sector a) (w a f.0)) in
    let p : BodyOk (body_in s.header) = record {
      kept = o.kept;
      flag = ap (λ (h : EBRHeader). flag_ok h.partition_1) (sym f.1) ∙ f.2.1.0;
      part = o.first;
    } in
    (f.0, subst BodyOk s.body p, subst NextOk s.leads (next-ok s.header.partition_2 o.second))

-- `w` is `v` with sector `a` seen as `x`
pub record Put (v : ℕ → View) (a : ℕ) (x : View) (w : ℕ → View) : Type 0 where
  pub same : w a ≡ x
  pub other : (b : ℕ) → b ≢ a → w b ≡ v b

pub store-put : (d : Disk) (s : Store) (x : View) → s.lba < d.size → viewed (answer (ebr_checks s.bytes) (ebr_of s.bytes)) ≡ x
    → Put (seen d) s.lba x (seen (stored d s))
store-put d s x h e = record {
  same = ap viewed (view-inside (stored d s) s.lba (rw (size-stored d s) h)) ∙ ap (λ (r : List ℕ). viewed (answer (ebr_checks r) (ebr_of r))) (sector-same d s) ∙ e;
  other = λ b o. ap viewed (view-same (stored d s) d b (size-stored d s) (sector-other d s b o));
}

pub write-put : (d : Disk) (e : MBRPartitionEntry) (l : LogicalPartition) (n : Option LogicalPartition) → at l < d.size → e.sys < 256 → BodyOk (body_of l)
    → NextOk (leads e.starting_lba n) → Put (seen d) (at l) (image e.starting_lba l n) (seen (stored d (write e l n)))
unfolding write
write-put d e l n h s b k = store-put d (write e l n) (image e.starting_lba l n) h (write-seen e l n s b k)

-- a chain that is held, where a store falls on none of its EBRs
pub held-off : (X : ℕ) (v w : ℕ → View) (a : ℕ) (x : View) → Put v a x w → (ls : List LogicalPartition) (n : Option LogicalPartition)
    → Row (Off a) ls n → Row (Held v X) ls n → Row (Held w X) ls n
held-off X v w a x p = row-zip (Off a) (Held v X) (Held w X) (λ l n o h. p.other (at l) o ∙ h)

-- the EBR of `l` rewritten to lead to `ns`, which is held: `ns` for what followed
pub relink : (X hi : ℕ) (ls : List LogicalPartition) (l : LogicalPartition) (ns : List LogicalPartition) (v w : ℕ → View) → Put v (at l) (image X l (next ns None)) w
    → Row (Fit hi) ls (Some l) → Row (Fit hi) (l ∷ ns) None → Row (Held v X) ls (Some l) → Row (Held v X) ns None → Row (Held w X) (ls ++ l ∷ ns) None
relink X hi ls l ns v w p fl fn hl hn =
    row-join (Held w X) ls (l ∷ ns) None
    (held-off X v w (at l) (image X l (next ns None)) p ls (Some l) (off-under hi (at l) ls (Some l) fl (omega arith)) hl)
    (p.same, held-off X v w (at l) (image X l (next ns None)) p ns None (rest ns fn) hn)
  where
    rest : (ns : List LogicalPartition) → Row (Fit hi) (l ∷ ns) None → Row (Off (at l)) ns None
    rest [] f = tt
    rest (m ∷ ms) f = off-over hi (at l) m ms None f.1 (omega (arith, f.0.above, f.0.ends))
