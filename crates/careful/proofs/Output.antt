-- The stores are read back from the lent output; a disk stays whole under safe changes. Assumes nothing.
use mathlib.Core.Path.{◌≡◌, refl, ap, ◌∙◌}
use mathlib.Core.Bool.{Bool, true, false}
use mathlib.Core.List.{List, [], ◌∷◌, ◌++◌, append_assoc}
use Prim.Native.Nat.{ℕ, ◌+◌, ◌^◌, ◌<◌}
use native.Mathlib.Omega.{arith}
use lib.Dec.{eqb}
use lib.ListN.{length, take, drop, length-append}
use lib.Seq.{take_at, drop_at}
use borrow.Author.Tests.{eqb-true, eqb-false}
use Rattle.base.specs.Bytes.{Record, number, bytes_of, little}
use Rattle.base.specs.Put.{put}
use Rattle.base.specs.Said.{gives}
use Rattle.base.proofs.Bytes.{number-bytes_of, length-bytes_of}
use Rattle.base.specs.All.{All}
use Rattle.extract.specs.Disk.{Disk, Store, stored, after}
use Rattle.extract.proofs.Disk.{sector-same, sector-other, size-stored}
use Rattle.sound.specs.Sound.{Contents}
use Rattle.careful.specs.Careful.{Change}
use Rattle.careful.specs.Demand3.{Safe, Whole}
use Rattle.careful.specs.Output.{store_bytes, stores_bytes, stores_in, out_after, count_of}
use Rattle.careful_stores.specs.Stored.{store_length}

module _ (s : Store) (rest : List ℕ) (r : Record s.bytes) (h : s.lba < 2 ^ 32) where
  abbrev lba : List ℕ
  lba = bytes_of little 4 s.lba

  one-parts : store_bytes s ++ rest ≡ lba ++ (s.bytes ++ rest)
  unfolding store_bytes
  one-parts = append_assoc lba s.bytes rest

  one-lba : number little (take 4 (store_bytes s ++ rest)) ≡ s.lba
  one-lba = ap (λ (l : List ℕ). number little (take 4 l)) one-parts ∙ ap (number little) (take_at lba (s.bytes ++ rest) 4 (length-bytes_of little 4 s.lba)) ∙ number-bytes_of little 4 s.lba h

  one-drop : drop 4 (store_bytes s ++ rest) ≡ s.bytes ++ rest
  one-drop = ap (drop 4) one-parts ∙ drop_at lba (s.bytes ++ rest) 4 (length-bytes_of little 4 s.lba)

  one-bytes : take 512 (drop 4 (store_bytes s ++ rest)) ≡ s.bytes
  one-bytes = ap (take 512) one-drop ∙ take_at s.bytes rest 512 r.long

  one-rest : drop store_length (store_bytes s ++ rest) ≡ rest
  unfolding store_bytes
  one-rest =
      let n : length (store_bytes s) ≡ store_length = length-append lba s.bytes ∙ rw (length-bytes_of little 4 s.lba, r.long) in
      drop_at (store_bytes s) rest store_length n

stores-front : (ss : List Store) (rest : List ℕ) → All (λ s. Record s.bytes) ss → All (λ s. s.lba < 2 ^ 32) ss → stores_in (stores_bytes ss ++ rest) (length ss) ≡ ss
unfolding stores_bytes stores_in
stores-front [] rest r h = refl
stores-front (s ∷ ss) rest r h =
    let e : store_bytes s ++ stores_bytes ss ++ rest ≡ store_bytes s ++ (stores_bytes ss ++ rest) = append_assoc (store_bytes s) (stores_bytes ss) rest in
    rw (e, one-lba s (stores_bytes ss ++ rest) r.0 h.0, one-bytes s (stores_bytes ss ++ rest) r.0 h.0, one-rest s (stores_bytes ss ++ rest) r.0 h.0, stores-front ss rest r.1 h.1)

below : (D : ℕ) → D < 2 ^ 32 → (ss : List Store) → All (λ s. s.lba < D) ss → All (λ s. s.lba < 2 ^ 32) ss
below D k [] h = tt
below D k (s ∷ ss) h = (omega (arith, h.0), below D k ss h.1)

-- what is written into the lent output is read back from it
pub stores_back : (d : Disk) (t : Contents) (c : Change) (out : List ℕ) → d.size < 2 ^ 32 → Safe d t c → stores_in (out_after out (gives c)) (count_of c) ≡ c.stores
unfolding out_after put
stores_back d t c out h s = stores-front c.stores (drop (0 + length (stores_bytes c.stores)) out) s.records (below d.size h c.stores s.inside)

-- a whole disk stays whole
whole-stored : (d : Disk) (s : Store) → Whole d → Record s.bytes → Whole (stored d s)
whole-stored d s w r = λ a h. go a (rw (size-stored d s) at h) (eqb a s.lba) refl
  where
    go : (a : ℕ) → a < d.size → (b : Bool) → eqb a s.lba ≡ b → Record ((stored d s).sector a)
    go a h true q = rw (eqb-true a s.lba q, sector-same d s) r
    go a h false q = rw (sector-other d s a (eqb-false a s.lba q)) (w a h)

pub whole-after : (d : Disk) (ss : List Store) → Whole d → All (λ s. Record s.bytes) ss → Whole (after d ss)
unfolding after
whole-after d [] w r = w
whole-after d (s ∷ ss) w r = whole-after (stored d s) ss (whole-stored d s w r.0) r.1
