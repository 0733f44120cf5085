-- A sector seen as an EBR. Assumes nothing.
use mathlib.Core.Path.{◌≡◌, refl}
use mathlib.Core.List.{◌∷◌}
use mathlib.Core.Bool.{Bool, true, false}
use Rattle.std.specs.Prelude.{None, Some}
use Prim.Native.Nat.{ℕ, ◌<◌}
use native.Mathlib.Omega.{arith}
use lib.Dec.{eqb, ltb}
use borrow.Author.Tests.{ltb-true, lt-ltb, eqb-true, eq-eqb, ne_eqb}
use Rattle.base.specs.Pick.{pick}
use Rattle.base.specs.Said.{Said, gives, refuses}
use Rattle.base.specs.Checks.{◌!◌, answer, AllHold}
use Rattle.base.proofs.Checks.{answer-gives, none-fails, all_hold, checked-none}
use Rattle.record_entry.specs.declared.MBRPartitionEntry.{MBRPartitionEntry}
use Rattle.record_ebr.specs.declared.EBRHeader.{EBRHeader}
use Rattle.record_ebr.specs.Ebr.{ebr_checks, ebr_of}
use Rattle.extract.specs.Disk.{Disk}
use Rattle.chain.specs.Chain.{view, Link, link_of, by_link}
use Rattle.chain.specs.Facts.{Body, Next, stop, to, ebr, next_of, body_in, viewed}

-- an EBR that is seen: its sector is on the disk, its signature and flags are right, and its bytes say it
pub view→facts : (d : Disk) (a : ℕ) (h : EBRHeader) → view d a ≡ gives h → (a < d.size) × (ebr_of (d.sector a) ≡ h) × AllHold (ebr_checks (d.sector a))
unfolding view
view→facts d a h e =
    let r = d.sector a in
    let p = answer-gives ((2 ! ltb a d.size) ∷ ebr_checks r) (ebr_of r) h e in
    let q = none-fails ((2 ! ltb a d.size) ∷ ebr_checks r) p.0 in
    (ltb-true a d.size q.0, p.1, q.1)

pub facts→view : (d : Disk) (a : ℕ) → a < d.size → AllHold (ebr_checks (d.sector a)) → view d a ≡ gives (ebr_of (d.sector a))
unfolding view
facts→view d a p q =
    let r = d.sector a in
    checked-none ((2 ! ltb a d.size) ∷ ebr_checks r) refuses (gives (ebr_of r)) (all_hold ((2 ! ltb a d.size) ∷ ebr_checks r) (lt-ltb a d.size p, q))

-- on the disk, a sector is what its bytes say
pub view-inside : (d : Disk) (a : ℕ) → a < d.size → view d a ≡ answer (ebr_checks (d.sector a)) (ebr_of (d.sector a))
unfolding view
view-inside d a p = rw (lt-ltb a d.size p)

-- the sector and the size decide what is seen
pub view-same : (d e : Disk) (a : ℕ) → d.size ≡ e.size → d.sector a ≡ e.sector a → view d a ≡ view e a
unfolding view
view-same d e a p q = rw (p, q)

-- what is seen as an EBR is one
pub record Seen (s : Said EBRHeader) (b : Body) (n : Next) : Type 0 where
  pub header : EBRHeader
  pub is : s ≡ gives header
  pub body : body_in header ≡ b
  pub leads : next_of header.partition_2 ≡ n

pub seen→view : (s : Said EBRHeader) (b : Body) (n : Next) → viewed s ≡ ebr b n → Seen s b n
seen→view (gives h) b n e = record { header = h; is = refl; body = cc; leads = cc }
seen→view (refuses k) b n e = let w : ◌≡◌ {A = ℕ} 0 1 = cc in absurd (omega arith)

-- where a link leads
pub next-stop : (e : MBRPartitionEntry) → e.starting_lba ≡ 0 → next_of e ≡ stop
unfolding next_of
next-stop e h = rw (eq-eqb e.starting_lba 0 h)

pub next-to : (e : MBRPartitionEntry) → 0 < e.starting_lba → next_of e ≡ to e.starting_lba (link_of e)
unfolding next_of
next-to e h = rw (ne_eqb e.starting_lba 0 (λ z. omega arith))

pub next→stop : (e : MBRPartitionEntry) → next_of e ≡ stop → e.starting_lba ≡ 0
unfolding next_of
next→stop e h = go (eqb e.starting_lba 0) refl h
  where
    go : (b : Bool) → eqb e.starting_lba 0 ≡ b → by_link stop (λ r. to r (link_of e)) (pick b None (Some e.starting_lba)) ≡ stop → e.starting_lba ≡ 0
    go true q h = eqb-true e.starting_lba 0 q
    go false q h = let w : ◌≡◌ {A = ℕ} 0 1 = cc in absurd (omega arith)

pub next→to : (e : MBRPartitionEntry) (r : ℕ) (k : Link) → next_of e ≡ to r k → (e.starting_lba ≡ r) × (link_of e ≡ k)
unfolding next_of
next→to e r k h = go (eqb e.starting_lba 0) h
  where
    go : (b : Bool) → by_link stop (λ y. to y (link_of e)) (pick b None (Some e.starting_lba)) ≡ to r k → (e.starting_lba ≡ r) × (link_of e ≡ k)
    go true h = let w : ◌≡◌ {A = ℕ} 0 1 = cc in absurd (omega arith)
    go false h =
        let p : e.starting_lba ≡ r = cc in
        let q : link_of e ≡ k = cc in
        (p, q)
