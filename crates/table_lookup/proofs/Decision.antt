-- What the kind of a number tells of the number. Assumes nothing.
use mathlib.Core.Path.{◌≡◌, refl}
use mathlib.Core.Bool.{Bool, true, false}
use mathlib.Core.List.{[], ◌∷◌}
use mathlib.Core.Logic.{inl, inr}
use Prim.Native.Nat.{ℕ, ◌-◌, ◌≤◌, ◌<◌}
use native.Mathlib.Omega.{arith}
use lib.Dec.{eqb, ltb}
use borrow.Author.Tests.{eqb-true, eqb-false, ltb-true, ltb-false}
use Rattle.base.specs.Pick.{pick}
use denote.Enum.Declared.{tag_of}
use types.Run.{OneOf}
use Rattle.table_lookup.specs.declared.Kind.{Kind}
use Rattle.table_lookup.specs.declared.Kind.TheVariants.{Nothing, Primary, Logical}
use Rattle.table_lookup.specs.Numbers.{kind_of}
use Rattle.table_lookup.specs.contracts.Kind.{the_type as kind-type}

-- 0 names nothing, 1 to 4 the primary of that number, 5 and up a logical partition
abbrev pub Names : ℕ → Kind → Type 0
Names n Nothing = n ≡ 0
Names n (Primary i) = (i ≡ n) × (1 ≤ i) × (i < 5)
Names n (Logical k) = (k ≡ n - 5) × (5 ≤ n)

decided : (n : ℕ) → Names n (kind_of n)
decided n = go (eqb n 0) (ltb n 5) refl refl
  where
    go : (z l : Bool) → eqb n 0 ≡ z → ltb n 5 ≡ l → Names n (pick z Nothing (pick l (Primary n) (Logical (n - 5))))
    go true l p q = eqb-true n 0 p
    go false true p q = (refl, let z : n ≡ 0 → ⊥ = eqb-false n 0 p in omega arith, ltb-true n 5 q)
    go false false p q = (refl, ltb-false n 5 q)

pub names : (n : ℕ) (k : Kind) → kind_of n ≡ k → Names n k
names n k e = rw e at (decided n)

-- a number that names no logical partition
pub not-logical : (n : ℕ) (k : Kind) → kind_of n ≡ k → OneOf (0 ∷ 1 ∷ []) (tag_of kind-type k) → n < 5
not-logical n Nothing e h = omega (arith, names n Nothing e)
not-logical n (Primary i) e h = omega (arith, names n (Primary i) e)
not-logical n (Logical k) e (inl h) = absurd (omega arith)
not-logical n (Logical k) e (inr h) = absurd (omega arith)
