-- The EBRs of a row stored in chain order: the disk then holds that row, its marks cleared. Assumes nothing.
use mathlib.Core.Path.{◌≡◌, refl, sym, ap, subst, ◌∙◌}
use Rattle.std.specs.Prelude.{Option, None, Some}
use mathlib.Core.List.{List, [], ◌∷◌, map}
use Prim.Native.Nat.{ℕ, ◌^◌, ◌≤◌, ◌<◌}
use native.Mathlib.Omega.{arith}
use Rattle.base.specs.Row.{next, Row}
use Rattle.base.specs.All.{All}
use Rattle.record_entry.specs.declared.MBRPartitionEntry.{MBRPartitionEntry}
use Rattle.record_ebr.specs.Ebr.{ebr_bytes}
use Rattle.record_ebr.proofs.Laws.{no-mark-ok}
use Rattle.extract.specs.Disk.{Disk, Store, stored, after}
use Rattle.extract.proofs.Disk.{sector-other, size-stored, size-after}
use Rattle.table.specs.declared.LogicalPartition.{LogicalPartition}
use Rattle.chain.specs.Facts.{viewed, seen, at, link_in, body_of, leads, Held, Plain}
use Rattle.chain.proofs.View.{view-same}
use Rattle.chain.specs.Links.{ebr_for, write}
use Rattle.write_rules.specs.Records.{write_plain, ebr_stores}
use Rattle.sound.proofs.Good.{Good}
use Rattle.careful.proofs.Places.{Fit, good-fit, fit_of, Off, Under, off-over, row_under}
use Rattle.careful.proofs.Written.{BodyOk, NextOk, image, Put, write-put}
use Rattle.careful.proofs.Push.{Writable, Linkable, body_ok, leads-ok}
use Rattle.write_reads_back.specs.RoundTrip.{unmarked}

-- an EBR that can be stored on a disk of D sectors and read back
pub record Storing (X D : ℕ) (l : LogicalPartition) (n : Option LogicalPartition) : Type 0 where
  pub inside : at l < D
  pub body : BodyOk (body_of l)
  pub leads_to : NextOk (leads X n)

-- the EBRs behind one stand at other places
behind-off : (hi : ℕ) (l : LogicalPartition) (ls : List LogicalPartition) → Row (Fit hi) (l ∷ ls) None → Row (Off (at l)) ls None
behind-off hi l [] f = tt
behind-off hi l (m ∷ ms) f = off-over hi (at l) m ms None f.1 (omega (arith, f.0.above, f.0.ends))

-- without its mark an EBR can be stored as well, and it is then what a careful change would store
body-unmarked : (l : LogicalPartition) → BodyOk (body_of l) → BodyOk (body_of (unmarked l))
unfolding body_of unmarked
body-unmarked l b = record { kept = record { long = b.kept.long; bytes = b.kept.bytes; mark = no-mark-ok }; flag = b.flag; part = b.part }

leads-unmarked : (X : ℕ) (ms : List LogicalPartition) → leads X (next (map unmarked ms) None) ≡ leads X (next ms None)
unfolding link_in unmarked
leads-unmarked X [] = refl
leads-unmarked X (m ∷ ms) = refl

plain-unmarked : (e : MBRPartitionEntry) (l : LogicalPartition) (ms : List LogicalPartition) → write_plain e l (next ms None) ≡ write e (unmarked l) (next (map unmarked ms) None)
unfolding write_plain write ebr_for ebr_bytes body_of link_in unmarked
plain-unmarked e l [] = refl
plain-unmarked e l (m ∷ ms) = refl

-- what a row says of places is not about marks
pub row-unmarked : (X : ℕ) (ls : List LogicalPartition) → Row (Plain X) ls None → Row (Plain X) (map unmarked ls) None
unfolding unmarked
row-unmarked X [] p = tt
row-unmarked X (l ∷ []) p = (record { inside = p.0.inside; after = p.0.after; fits = p.0.fits; before = tt }, tt)
row-unmarked X (l ∷ m ∷ ms) p = (record { inside = p.0.inside; after = p.0.after; fits = p.0.fits; before = p.0.before }, row-unmarked X (m ∷ ms) p.1)

module _ (e : MBRPartitionEntry) where
  -- a sector that is the place of none keeps what it holds
  pub off-after : (ms : List LogicalPartition) (d : Disk) (a : ℕ) → Row (Off a) ms None → (after d (ebr_stores e ms)).sector a ≡ d.sector a
  unfolding after ebr_stores write_plain
  off-after [] d a r = refl
  off-after (m ∷ ms) d a r = off-after ms (stored d (write_plain e m (next ms None))) a r.1 ∙ sector-other d (write_plain e m (next ms None)) a (λ q. r.0 (sym q))

  -- each place holds its EBR, without the mark
  pub row-stored : (hi D : ℕ) (ms : List LogicalPartition) (d : Disk) → e.sys < 256 → d.size ≡ D → Row (Fit hi) ms None → Row (Storing e.starting_lba D) ms None
      → Row (Held (seen (after d (ebr_stores e ms))) e.starting_lba) (map unmarked ms) None
  unfolding after ebr_stores unmarked
  row-stored hi D [] d s z f w = tt
  row-stored hi D (m ∷ ms) d s z f w =
      let X : ℕ = e.starting_lba in
      let n : Option LogicalPartition = next (map unmarked ms) None in
      let one : Store = write_plain e m (next ms None) in
      let d₁ : Disk = stored d one in
      let p : Put (seen d) (at m) (image X (unmarked m) n) (seen d₁) =
      subst (λ (k : Store). Put (seen d) (at m) (image X (unmarked m) n) (seen (stored d k))) (sym (plain-unmarked e m ms))
      (write-put d e (unmarked m) n (omega (arith, w.0.inside)) s (body-unmarked m w.0.body) (subst NextOk (sym (leads-unmarked X ms)) w.0.leads_to)) in
      let o : (after d₁ (ebr_stores e ms)).sector (at m) ≡ d₁.sector (at m) = off-after ms d₁ (at m) (behind-off hi m ms f) in (
        ap viewed (view-same (after d₁ (ebr_stores e ms)) d₁ (at m) (size-after d₁ (ebr_stores e ms)) o) ∙ p.same,
        row-stored hi D ms d₁ s (size-stored d one ∙ z) f.1 w.1,
      )

-- the good rows of a sound table can be stored
module _ (X hi D : ℕ) (fits : hi ≤ D) (small : D < 2 ^ 32) where
  pub storing : (l : LogicalPartition) (ls : List LogicalPartition) → X ≤ at l → Row (Good hi) (l ∷ ls) None → All Writable (l ∷ ls) → All Linkable ls
      → Row (Storing X D) (l ∷ ls) None
  storing l [] h g w k =
      let f : Fit hi l None = good-fit hi l None g.0 in (
        record {
          inside = omega (arith, f.above, f.ends);
          body = body_ok hi l None g.0 w.0 (omega (arith, f.ends));
          leads_to = tt;
        },
        tt,
      )
  storing l (m ∷ ms) h g w k =
      let f : Fit hi l (Some m) = good-fit hi l (Some m) g.0 in
      let r : Row (Under hi) (l ∷ m ∷ ms) None = row_under hi hi (l ∷ m ∷ ms) None (fit_of hi (l ∷ m ∷ ms) None g) (omega arith) in (
        record {
          inside = omega (arith, f.above, r.0);
          body = body_ok hi l (Some m) g.0 w.0 (omega (arith, r.0));
          leads_to = leads-ok X hi m g.0.linked k.0 (omega (arith, f.above, f.ends)) (omega arith);
        },
        storing m ms (omega (arith, f.above, f.ends)) g.1 w.1 k.1,
      )
