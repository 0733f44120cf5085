-- Stores laid over an extract are stores on its disk. Assumes nothing.
use mathlib.Core.Path.{◌≡◌, refl, ap, sym, subst, ◌∙◌}
use mathlib.Core.Logic.{◌⊎◌}
use mathlib.Core.List.{List, [], ◌∷◌}
use Prim.Native.Nat.{ℕ, zero, suc, ◌<◌}
use lib.ListN.{take}
use Rattle.base.specs.Bytes.{Record}
use Rattle.base.specs.Said.{gives}
use Rattle.base.specs.All.{All}
use Rattle.extract.specs.Disk.{Disk, Store, stored, after}
use Rattle.extract.specs.Extract.{disk_sectors, Good, disk_of}
use Rattle.extract.proofs.Disk.{size_of, size-stored}
use Rattle.extract_lay.specs.Layover.{new_extract}
use Rattle.extract_lay.proofs.Laws.{new-good, new-stored}
use Rattle.sound.specs.Sound.{Contents}
use Rattle.careful.specs.Careful.{Change}
use Rattle.careful.specs.Demand3.{contents_on, Safe}
use Rattle.careful.specs.Laid.{lay_all, NoneTooMany, SafeLaid}

all_take : {A : Type 0} (P : A → Type 0) (k : ℕ) (xs : List A) → All P xs → All P (take k xs)
all_take P zero xs h = tt
all_take P (suc k) [] h = tt
all_take P (suc k) (x ∷ xs) h = (h.0, all_take P k xs h.1)

below-same : (D E : ℕ) → D ≡ E → (ss : List Store) → All (λ s. s.lba < D) ss → All (λ s. s.lba < E) ss
below-same D E e ss h = subst (λ (n : ℕ). All (λ s. s.lba < n) ss) e h

-- the disk of the extract with stores laid over it
pub lay-disk : (x : List ℕ) → Good x → (ss : List Store) → All (λ s. Record s.bytes) ss → All (λ s. s.lba < (disk_of x).size) ss → NoneTooMany x ss
    → disk_of (lay_all x ss) ≡ after (disk_of x) ss
unfolding lay_all after
lay-disk x g [] r h m = refl
lay-disk x g (s ∷ ss) r h m =
    let b : s.lba < disk_sectors x = rw (size_of x) at h.0 in
    let y : List ℕ = new_extract x s.lba s.bytes in
    let e : disk_of y ≡ stored (disk_of x) s = new-stored x g s.lba s.bytes r.0 b m.0 in
    let z : (disk_of x).size ≡ (disk_of y).size = sym (ap (λ (d : Disk). d.size) e ∙ size-stored (disk_of x) s) in
    lay-disk y (new-good x g s.lba s.bytes r.0 b m.0) ss r.1 (below-same (disk_of x).size (disk_of y).size z ss h.1) m.1
    ∙ ap (λ (d : Disk). after d ss) e

pub safe-laid : (x : List ℕ) → Good x → (t : Contents) (c : Change) → Safe (disk_of x) t c → SafeLaid x t c
safe-laid x g t c s = record {
  stops = λ k m.
      subst (λ (d : Disk). (contents_on d ≡ gives t) ⊎ (contents_on d ≡ gives c.result))
      (sym (lay-disk x g (take k c.stores) (all_take _ k c.stores s.records) (all_take _ k c.stores s.inside) m)) (s.stops k);
  done = λ m. ap contents_on (lay-disk x g c.stores s.records s.inside m) ∙ s.done;
}
