-- A header into lent bytes. Assumes nothing.
use mathlib.Core.Path.{◌≡◌, refl, sym, ap, subst, ◌∙◌}
use mathlib.Core.Bool.{Bool}
use mathlib.Core.List.{List, [], ◌∷◌, ◌++◌, append_assoc}
use Prim.Native.Nat.{ℕ, ◌+◌, ◌≤◌}
use native.Mathlib.Omega.{arith}
use lib.ListN.{length, take, drop}
use lib.Seq.{take_at, drop_at, length-take-le}
use borrow.Author.Tests.{eq-eqb, ne_eqb}
use Rattle.base.specs.Put.{put}
use Rattle.base.specs.Said.{Said, gives, refuses, failure}
use Rattle.base.specs.Checks.{◌!◌, answer}
use Rattle.base.proofs.Put.{put_whole}
use Rattle.record_mbr.specs.declared.MBRHeader.{MBRHeader}
use Rattle.block.specs.Block.{header_part, header_length, block_length}
use Rattle.std.specs.Prelude.{Option, None, Some}
use Rattle.abi_header.specs.HeaderBytesHeader.{header_for, header_after}

-- what was laid over a list is that part of it
part-put : (d xs : List ℕ) (at n : ℕ) → length xs ≡ n → at ≤ length d → take n (drop at (put d at xs)) ≡ xs
unfolding put
part-put d xs at n l h =
    let q = drop (at + length xs) d in
    ap (λ (z : List ℕ). take n (drop at z)) (append_assoc (take at d) xs q) ∙ ap (take n) (drop_at (take at d) (xs ++ q) at (length-take-le at d h)) ∙ take_at xs q n l

pub header-put : (z block out new : List ℕ) (h : MBRHeader) → length z ≡ block_length → length out ≡ header_length → (block ≡ put z 20 (header_part h)) × (length (header_part h) ≡ header_length)
    → new ≡ put out 0 (take header_length (drop 20 block)) → new ≡ header_part h
header-put z block out new h l n p q =
    let e : take header_length (drop 20 block) ≡ header_part h = ap (λ (b : List ℕ). take header_length (drop 20 b)) p.0 ∙ part-put z (header_part h) 20 header_length p.1 (omega arith) in
    q ∙ ap (put out 0) e ∙ put_whole out (header_part h) (n ∙ sym p.1)

-- the answer, and the lent bytes afterwards
abbrev pub Read : Said MBRHeader → List ℕ → Option ℕ → List ℕ → Type 0
Read v out r new = (r ≡ failure v) × (new ≡ header_after out v)

pub read_by : (v z : Said MBRHeader) (out : List ℕ) (r : Option ℕ) (new : List ℕ) → v ≡ z → Read z out r new → Read v out r new
read_by v z out r new e w = subst (λ (y : Said MBRHeader). Read y out r new) (sym e) w

pub short : (h : MBRHeader) (out : List ℕ) → (length out ≡ header_length → ⊥) → Read (header_for (gives h) (length out)) out (Some 101) out
short h out n = read_by _ (refuses 101) out (Some 101) out (ap (λ (b : Bool). answer ((101 ! b) ∷ []) h) (ne_eqb _ _ n)) (refl, refl)

pub fitting : (h : MBRHeader) (out new : List ℕ) → length out ≡ header_length → new ≡ header_part h → Read (header_for (gives h) (length out)) out None new
fitting h out new n e = read_by _ (gives h) out None new (ap (λ (b : Bool). answer ((101 ! b) ∷ []) h) (eq-eqb _ _ n)) (refl, e)
