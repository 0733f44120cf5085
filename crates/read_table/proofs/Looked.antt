-- Reading looks at no sector but 0 and the chain's places. Assumes nothing.
use mathlib.Core.Path.{◌≡◌, refl, ap}
use Rattle.std.specs.Prelude.{Option, None, Some}
use mathlib.Core.Bool.{Bool, true, false}
use mathlib.Core.List.{List, [], ◌∷◌}
use Prim.Native.Nat.{ℕ, zero, suc, ◌+◌}
use native.Mathlib.Omega.{arith}
use lib.Dec.{ltb}
use Rattle.base.specs.Pick.{pick}
use Rattle.base.specs.Said.{Said, gives, refuses, and_then}
use Rattle.base.specs.Checks.{answer}
use Rattle.record_entry.specs.declared.MBRPartitionEntry.{MBRPartitionEntry}
use Rattle.record_ebr.specs.declared.EBRHeader.{EBRHeader}
use Rattle.record_ebr.specs.Ebr.{ebr_checks, ebr_of}
use Rattle.record_mbr.specs.declared.MBRHeader.{MBRHeader}
use Rattle.record_mbr.specs.Mbr.{mbr_of, header_checks, primaries, extended_of}
use Rattle.extract.specs.Disk.{Disk}
use Rattle.table.specs.declared.LogicalPartition.{LogicalPartition}
use Rattle.table.specs.Table.{most}
use Rattle.chain.specs.Chain.{view, Link, first_link, link_of, placed, join, by_link, follows_in, chain, forgiven, logicals_of}
use Rattle.read_table.specs.Read.{with_chain, read}
use Rattle.read_header.specs.Header.{header_on}
use Rattle.read_table.specs.Facts.{if_given, looking, behind, chain_looks, looked, Agree}

module _ (d e : Disk) (width : d.width ≡ e.width) (size : d.size ≡ e.size) where
  -- one sector: it is seen alike if it is past the disk, or both hold the same
  view-past : (a : ℕ) → ltb a d.size ≡ false → view d a ≡ view e a
  unfolding view
  view-past a h =
      let k : ltb a e.size ≡ false = rw (← size) h in
      rw (h, k)

  view-like : (a : ℕ) → d.sector a ≡ e.sector a → view d a ≡ view e a
  unfolding view
  view-like a h = rw (size, h)

  -- a sector that is looked at, and those that it leads to
  view-looked : (a : ℕ) (s : Said EBRHeader) (f : EBRHeader → List ℕ) → Agree d e (looking d a s f) → view d a ≡ view e a
  view-looked a s f g = go (ltb a d.size) refl g
    where
      go : (t : Bool) → ltb a d.size ≡ t → Agree d e (pick t (a ∷ if_given s f) []) → view d a ≡ view e a
      go true q g = view-like a g.0
      go false q g = view-past a q

  -- what the sector leads to, if it is an EBR
  behind-looked : (a : ℕ) (h : EBRHeader) (f : EBRHeader → List ℕ) → view d a ≡ gives h → Agree d e (looking d a (view d a) f) → Agree d e (f h)
  unfolding view
  behind-looked a h f q g = go (ltb a d.size) q (rw q at g)
    where
      go : (t : Bool) → pick t (answer (ebr_checks (d.sector a)) (ebr_of (d.sector a))) (refuses 2) ≡ gives h → Agree d e (pick t (a ∷ f h) []) → Agree d e (f h)
      go true q g = g.1
      go false q g = let w : ◌≡◌ {A = ℕ} 0 1 = cc in absurd (omega arith)

  step : (X m r : ℕ) (j : Link) → ((h : EBRHeader) → Agree d e (behind d X m r h) → chain (view d) X m r j h ≡ chain (view e) X m r j h)
      → Agree d e (looking d (X + r) (view d (X + r)) (behind d X m r))
      → and_then (view d (X + r)) (chain (view d) X m r j) ≡ and_then (view e (X + r)) (chain (view e) X m r j)
  step X m r j ih g = go (view d (X + r)) refl
    where
      go : (s : Said EBRHeader) → view d (X + r) ≡ s → and_then (view d (X + r)) (chain (view d) X m r j) ≡ and_then (view e (X + r)) (chain (view e) X m r j)
      go (refuses k) q = rw (← (view-looked (X + r) (view d (X + r)) (behind d X m r) g), q)
      go (gives h) q = rw (← (view-looked (X + r) (view d (X + r)) (behind d X m r) g), q) (ih h (behind-looked (X + r) h (behind d X m r) q g))

  chain-like : (X m rel : ℕ) (k : Link) (h : EBRHeader) → Agree d e (behind d X m rel h) → chain (view d) X m rel k h ≡ chain (view e) X m rel k h
  unfolding chain behind
  chain-like X zero rel k h g = refl
  chain-like X (suc m) rel k h g = go (λ r j. step X m r j (λ x. chain-like X m r j x)) (follows_in (suc m) X rel h) g
    where
      link : Link
      link = link_of h.partition_2

      looks : ℕ → List ℕ
      looks r = looking d (X + r) (view d (X + r)) (behind d X m r)

      on : Disk → Link → ℕ → Said (List LogicalPartition)
      on x j r = and_then (view x (X + r)) (chain (view x) X m r j)

      go : ((r : ℕ) (j : Link) → Agree d e (looks r) → on d j r ≡ on e j r) → (s : Said (Option ℕ)) → Agree d e (if_given s (by_link [] looks))
          → and_then s (λ o. join (placed (X + rel) k h) (by_link (gives []) (on d link) o)) ≡ and_then s (λ o. join (placed (X + rel) k h) (by_link (gives []) (on e link) o))
      go ih (refuses j) g = refl
      go ih (gives None) g = refl
      go ih (gives (Some r)) g = ap (join (placed (X + rel) k h)) (ih r link g)

  logicals-like : (o : Option MBRPartitionEntry) → Agree d e (chain_looks d o) → logicals_of (view d) o ≡ logicals_of (view e) o
  unfolding chain_looks logicals_of
  logicals-like None g = refl
  logicals-like (Some x) g = go (view d x.starting_lba) refl
    where
      go : (s : Said EBRHeader) → view d x.starting_lba ≡ s
          → forgiven (view d x.starting_lba) (chain (view d) x.starting_lba most 0 (first_link x))
          ≡ forgiven (view e x.starting_lba) (chain (view e) x.starting_lba most 0 (first_link x))
      go (refuses k) q = rw (← (view-looked x.starting_lba (view d x.starting_lba) (behind d x.starting_lba most 0) g), q)
      go (gives h) q =
          rw (← (view-looked x.starting_lba (view d x.starting_lba) (behind d x.starting_lba most 0) g), q)
          (chain-like x.starting_lba most 0 (first_link x) h (behind-looked x.starting_lba h (behind d x.starting_lba most 0) q g))

  header-like : Agree d e (looked d) → header_on d ≡ header_on e
  unfolding looked header_on
  header-like g = go (ltb 0 d.size) refl g
    where
      go : (t : Bool) → ltb 0 d.size ≡ t → Agree d e (pick t (0 ∷ if_given (header_on d) (λ h. chain_looks d (extended_of (primaries h)))) []) → header_on d ≡ header_on e
      go true q g = rw (size, g.0)
      go false q g =
          let k : ltb 0 e.size ≡ false = rw (← size) q in
          rw (q, k)

  header-looked : (h : MBRHeader) → header_on d ≡ gives h → Agree d e (looked d) → Agree d e (chain_looks d (extended_of (primaries h)))
  unfolding looked header_on
  header-looked h q g = go (ltb 0 d.size) q (rw q at g)
    where
      f : MBRHeader → List ℕ
      f h = chain_looks d (extended_of (primaries h))

      go : (t : Bool) → pick t (answer (header_checks (mbr_of (d.sector 0))) (mbr_of (d.sector 0))) (refuses 2) ≡ gives h → Agree d e (pick t (0 ∷ f h) []) → Agree d e (f h)
      go true q g = g.1
      go false q g = let w : ◌≡◌ {A = ℕ} 0 1 = cc in absurd (omega arith)

  -- disks of the same width and size that hold the same in the sectors that reading the first looks at read the same
  pub read-like : Agree d e (looked d) → read d ≡ read e
  unfolding read with_chain
  read-like g = go (header_on d) refl
    where
      go : (s : Said MBRHeader) → header_on d ≡ s → and_then (header_on d) (with_chain d) ≡ and_then (header_on e) (with_chain e)
      go (refuses k) q = rw (← (header-like g), q)
      go (gives h) q = rw (← (header-like g), q, logicals-like (extended_of (primaries h)) (header-looked h q g), width, size)
