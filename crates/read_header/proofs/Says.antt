-- What reading a header says, step by step. Assumes nothing.
use mathlib.Core.Path.{◌≡◌, sym}
use mathlib.Core.List.{List}
use Prim.Native.Nat.{ℕ, ◌<◌}
use native.Mathlib.Omega.{arith}
use lib.ListN.{length}
use borrow.Author.Tests.{eq-eqb, lt-ltb, le-ltb}
use Rattle.base.specs.Said.{gives, refuses}
use Rattle.base.specs.Checks.{answer}
use Rattle.record_mbr.specs.Mbr.{mbr_of, header_checks, mbr_read_checks}
use Rattle.extract.specs.Extract.{Good, disk_of, disk_sectors, record_of}
use Rattle.extract.specs.Answers.{check_says}
use Rattle.extract.specs.declared.Extract.{Extract}
use Rattle.extract.proofs.Disk.{size_of, found-sector, absent-sector}
use Rattle.read_header.specs.Header.{header_on, header_says}

-- the header of the disk of a good extract
pub header-past : (x : List ℕ) → disk_sectors x ≡ 0 → refuses 2 ≡ header_on (disk_of x)
unfolding header_on
header-past x h = rw (size_of x, le-ltb 0 (disk_sectors x) (omega arith))

pub header-blank : (x : List ℕ) → Good x → (disk_sectors x ≡ 0 → ⊥) → length (record_of x 0) ≡ 0 → refuses 3 ≡ header_on (disk_of x)
unfolding header_on
header-blank x g h z = rw (size_of x, lt-ltb 0 (disk_sectors x) (omega arith), absent-sector x g 0 z)

on-disk : (x : List ℕ) → Good x → (disk_sectors x ≡ 0 → ⊥) → (length (record_of x 0) ≡ 0 → ⊥)
    → header_on (disk_of x) ≡ answer (header_checks (mbr_of (record_of x 0))) (mbr_of (record_of x 0))
unfolding header_on
on-disk x g h z =
    let f : 0 < length (record_of x 0) = omega arith in
    rw (size_of x, lt-ltb 0 (disk_sectors x) (omega arith), (found-sector x g 0 f).1)

lent-long : (x : List ℕ) → Good x → (length (record_of x 0) ≡ 0 → ⊥) → length (record_of x 0) ≡ 512
lent-long x g z =
    let f : 0 < length (record_of x 0) = omega arith in
    (found-sector x g 0 f).0.long

-- a record that the extract has is read as the disk's
pub header-lent : (x : List ℕ) → Good x → (disk_sectors x ≡ 0 → ⊥) → (length (record_of x 0) ≡ 0 → ⊥)
    → answer (mbr_read_checks (record_of x 0)) (mbr_of (record_of x 0)) ≡ header_on (disk_of x)
header-lent x g h z = rw (eq-eqb (length (record_of x 0)) 512 (lent-long x g z)) (sym (on-disk x g h z))

-- a refused extract, and a good one
pub header-bad : (x : List ℕ) (k : ℕ) → refuses k ≡ check_says x → refuses k ≡ header_says x
unfolding header_says
header-bad x k e = rw (← e)

pub header-good : (x : List ℕ) (e : Extract) → gives e ≡ check_says x → header_on (disk_of x) ≡ header_says x
unfolding header_says
header-good x e q = rw (← q)
