-- From a header by value to its bytes. Assumes nothing.
use mathlib.Core.Path.{◌≡◌, refl, sym, ap, subst, ◌∙◌}
use mathlib.Core.Bool.{Bool}
use Rattle.std.specs.Prelude.{Option, Some}
use mathlib.Core.List.{List, [], ◌∷◌}
use Prim.Native.Nat.{ℕ}
use lib.ListN.{length}
use borrow.Author.Tests.{eq-eqb, ne_eqb}
use Rattle.base.specs.Said.{Said, gives, refuses, and_then, failure}
use Rattle.base.specs.Checks.{◌!◌, answer}
use Rattle.record_mbr.specs.declared.MBRHeader.{MBRHeader}
use Rattle.block.specs.Block.{header_in, header_length}
use Rattle.write_rules.specs.Answers.{header_write_says, header_leaves}
use Rattle.abi_header.specs.HeaderBytesHeader.{header_for, header_after}
use Rattle.abi_header.specs.Header.{lent_header, header_output}
use Rattle.abi_header.proofs.header_bytes.Laws.{Read, read_by}

pub read-refused : (v : Said MBRHeader) (k : ℕ) (out : List ℕ) → v ≡ refuses k → Read (header_for v (length out)) out (Some k) out
read-refused v k out e = read_by _ (refuses k) out (Some k) out (ap (λ (y : Said MBRHeader). header_for y (length out)) e) (refl, refl)

pub read_done : (v : Said MBRHeader) (h : MBRHeader) (r : Option ℕ) (out new : List ℕ) → v ≡ gives h → r ≡ failure (header_for (gives h) (length out))
    → new ≡ header_after out (header_for (gives h) (length out)) → Read (header_for v (length out)) out r new
read_done v h r out new e p q = read_by _ (header_for (gives h) (length out)) out r new (ap (λ (y : Said MBRHeader). header_for y (length out)) e) (p, q)

-- a header in lent bytes, written over an extract
abbrev pub Wrote : Said MBRHeader → List ℕ → List ℕ → Said ℕ → List ℕ → Type 0
Wrote v x out r new = (r ≡ and_then v (λ h. header_write_says h x (length out))) × (new ≡ header_output v x out)

wrote_by : (v z : Said MBRHeader) (x out : List ℕ) (r : Said ℕ) (new : List ℕ) → v ≡ z → Wrote z x out r new → Wrote v x out r new
wrote_by v z x out r new e w = subst (λ (y : Said MBRHeader). Wrote y x out r new) (sym e) w

pub write-refused : (b x out : List ℕ) → (length b ≡ header_length → ⊥) → Wrote (lent_header b) x out (refuses 101) out
write-refused b x out n = wrote_by _ (refuses 101) x out (refuses 101) out (ap (λ (c : Bool). answer ((101 ! c) ∷ []) (header_in b)) (ne_eqb _ _ n)) (refl, refl)

pub write_done : (b x out : List ℕ) (h : MBRHeader) (r : Said ℕ) (new : List ℕ) → length b ≡ header_length → h ≡ header_in b → r ≡ header_write_says h x (length out) → new ≡ header_leaves h x out
    → Wrote (lent_header b) x out r new
write_done b x out h r new n e p q =
    wrote_by _ (gives h) x out r new (ap (λ (c : Bool). answer ((101 ! c) ∷ []) (header_in b)) (eq-eqb _ _ n) ∙ ap gives (sym e)) (p, q)
