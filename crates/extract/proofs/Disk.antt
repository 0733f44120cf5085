-- Laws of disks, and of the disk of an extract. Assumes nothing.
use mathlib.Core.Path.{◌≡◌, refl, ap, ◌∙◌}
use mathlib.Core.Logic.{◌≢◌, ◌⊎◌, inl, inr}
use mathlib.Core.List.{List, [], ◌∷◌, ◌++◌}
use mathlib.Core.Bool.{Bool, true, false}
use Prim.Native.Nat.{ℕ, zero, suc, ◌+◌, ◌*◌, ◌≤◌, ◌<◌}
use native.Mathlib.Omega.{arith}
use lib.Dec.{eqb}
use lib.ListN.{length, drop, length-replicate, length-drop}
use lib.Seq.{length-take-le}
use borrow.Author.Tests.{eq-eqb, ne_eqb}
use Rattle.base.specs.Pick.{pick}
use Rattle.base.specs.Bytes.{Record}
use Rattle.base.proofs.Bytes.{bytes-zeros, bytes_take, bytes_drop}
use Rattle.extract.specs.Disk.{Disk, Store, stored, after, Same}
use Rattle.extract.specs.Extract.{sector_size_of, disk_sectors, count, lba_at, record_at, records_from, records, record_in, record_of, blank, Good, disk_of}
use Rattle.extract.specs.Rules.{size_ok}
use Rattle.extract.proofs.Good.{good-long, good-size, word_below}

-- a stored sector holds what was stored, every other what it held
pub sector-same : (d : Disk) (s : Store) → (stored d s).sector s.lba ≡ s.bytes
unfolding stored
sector-same d s = rw (eq-eqb s.lba s.lba refl)

pub sector-other : (d : Disk) (s : Store) (a : ℕ) → a ≢ s.lba → (stored d s).sector a ≡ d.sector a
unfolding stored
sector-other d s a h = rw (ne_eqb a s.lba h)

pub size-stored : (d : Disk) (s : Store) → (stored d s).size ≡ d.size
unfolding stored
size-stored d s = refl

pub width-stored : (d : Disk) (s : Store) → (stored d s).width ≡ d.width
unfolding stored
width-stored d s = refl

pub size-after : (d : Disk) (ss : List Store) → (after d ss).size ≡ d.size
unfolding after
size-after d [] = refl
size-after d (s ∷ ss) = size-after (stored d s) ss ∙ size-stored d s

pub width-after : (d : Disk) (ss : List Store) → (after d ss).width ≡ d.width
unfolding after
width-after d [] = refl
width-after d (s ∷ ss) = width-after (stored d s) ss ∙ width-stored d s

pub after-append : (d : Disk) (ss ts : List Store) → after d (ss ++ ts) ≡ after (after d ss) ts
unfolding after
after-append d [] ts = refl
after-append d (s ∷ ss) ts = after-append (stored d s) ss ts

-- disks that no reader can tell apart are equal
pub same-equal : (d e : Disk) → Same d e → d ≡ e
same-equal d e h = λ i. record { width = h.width i; size = h.size i; sector = λ a. h.sector a i }

-- the disk of an extract
pub width_of : (x : List ℕ) → (disk_of x).width ≡ sector_size_of x
unfolding disk_of
width_of x = refl

pub size_of : (x : List ℕ) → (disk_of x).size ≡ disk_sectors x
unfolding disk_of
size_of x = refl

pub sector-of : (x : List ℕ) (a : ℕ) → (disk_of x).sector a ≡ record_in blank (records x) a
unfolding disk_of
sector-of x a = refl

pub size_below : (x : List ℕ) → Good x → (disk_of x).size < 4294967296
unfolding disk_of
size_below x g = word_below x 4 g.bytes

pub width-good : (x : List ℕ) → Good x → size_ok (disk_of x).width ≡ true
unfolding disk_of
width-good x g = good-size x g

-- its records are records
pub record-at : (x : List ℕ) → Good x → (i : ℕ) → i < count x → Record (record_at x i)
unfolding record_at
record-at x g i h = record {
  long = length-take-le 512 (drop (24 + count x * 4 + i * 512) x) (omega (arith, length-drop (24 + count x * 4 + i * 512) x, good-long x g));
  bytes = bytes_take 512 (drop (24 + count x * 4 + i * 512) x) (bytes_drop (24 + count x * 4 + i * 512) x g.bytes);
}

pub record-blank : Record blank
record-blank = record { long = length-replicate {A = ℕ} 512 0; bytes = bytes-zeros 512 }

-- a looked-up record and the sector: there is none, and the sector is blank; or it is the sector
abbrev Seen : (other found sector : List ℕ) → Type 0
Seen other found sector = ((found ≡ []) × (sector ≡ other)) ⊎ (Record found × (sector ≡ found))

seen-from : (x : List ℕ) → Good x → (a i k : ℕ) → i + k ≤ count x → Seen blank (record_in [] (records_from x i k) a) (record_in blank (records_from x i k) a)
unfolding record_in records_from
seen-from x g a i zero h = inl (refl, refl)
seen-from x g a i (suc k) h = go (eqb a (lba_at x i)) (seen-from x g a (i + 1) k (omega arith))
  where
    go : (t : Bool) → Seen blank (record_in [] (records_from x (i + 1) k) a) (record_in blank (records_from x (i + 1) k) a)
        → Seen
        blank
        (pick t (record_at x i) (record_in [] (records_from x (i + 1) k) a))
        (pick t (record_at x i) (record_in blank (records_from x (i + 1) k) a))
    go true r = inr (record-at x g i (omega arith), refl)
    go false r = r

pub record-or-blank : (x : List ℕ) → Good x → (a : ℕ) → Seen blank (record_of x a) ((disk_of x).sector a)
unfolding disk_of
record-or-blank x g a = seen-from x g a 0 (count x) (omega arith)

-- every sector of the disk of a good extract is a record
pub sector-record : (x : List ℕ) → Good x → (a : ℕ) → Record ((disk_of x).sector a)
sector-record x g a = elim (record-or-blank x g a) [
  | inl p ↦ rw p.1 record-blank
  | inr p ↦ rw p.1 p.0
]

-- a looked-up record that is not empty is the sector; an empty one means a blank sector
pub found-sector : (x : List ℕ) → Good x → (a : ℕ) → 0 < length (record_of x a) → Record (record_of x a) × ((disk_of x).sector a ≡ record_of x a)
found-sector x g a h = elim (record-or-blank x g a) [
  | inl p ↦ absurd (omega (arith, ap length p.0))
  | inr p ↦ p
]

pub absent-sector : (x : List ℕ) → Good x → (a : ℕ) → length (record_of x a) ≡ 0 → (disk_of x).sector a ≡ blank
absent-sector x g a h = elim (record-or-blank x g a) [
  | inl p ↦ p.1
  | inr p ↦ absurd (omega (arith, p.0.long))
]
