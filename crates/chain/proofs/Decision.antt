-- What follows an EBR, case by case. Assumes nothing.
use mathlib.Core.Path.{◌≡◌, refl}
use mathlib.Core.Bool.{Bool, true, false}
use Rattle.std.specs.Prelude.{Option, None, Some}
use Prim.Native.Nat.{ℕ, ◌+◌, ◌^◌, ◌≤◌, ◌<◌}
use native.Mathlib.Omega.{arith}
use lib.Dec.{eqb, ltb}
use borrow.Author.Tests.{lt-ltb, le-ltb, eq-eqb, ne_eqb, ltb-true, ltb-false, eqb-true}
use Rattle.base.specs.Pick.{pick}
use Rattle.base.specs.Said.{gives, refuses}
use Rattle.chain.specs.Chain.{leads_to, by_link, follows}
use Rattle.chain.specs.Walk.{place_on}

-- a place on the disk
pub place_at : (d a l : ℕ) → Some l ≡ place_on d a → (l ≡ a) × (a < d)
place_at d a l h = go (ltb a d) refl h
  where
    go : (b : Bool) → ltb a d ≡ b → Some l ≡ pick b (Some a) None → (l ≡ a) × (a < d)
    go true q h = (let z : l ≡ a = cc in z, ltb-true a d q)
    go false q h = let w : ◌≡◌ {A = ℕ} 0 1 = cc in absurd (omega arith)

pub place-beyond : (d a : ℕ) → None ≡ place_on d a → d ≤ a
place-beyond d a h = go (ltb a d) refl h
  where
    go : (b : Bool) → ltb a d ≡ b → None ≡ pick b (Some a) None → d ≤ a
    go true q h = let w : ◌≡◌ {A = ℕ} 0 1 = cc in absurd (omega arith)
    go false q h = ltb-false a d q

module _ (m a rel p t : ℕ) where
  pub follows-none : m ≡ 0 → refuses 6 ≡ follows m a rel p t
  unfolding follows
  follows-none z = rw (le-ltb 0 m (omega arith))

  pub follows-end : 0 < m → p + a < 2 ^ 32 → t ≡ 0 → gives None ≡ follows m a rel p t
  unfolding follows
  follows-end h o e = rw (lt-ltb 0 m h, lt-ltb (p + a) (2 ^ 32) o, eq-eqb t 0 e)

  pub follows_to : 0 < m → p + a < 2 ^ 32 → (t ≡ 0 → ⊥) → rel < t → gives (Some t) ≡ follows m a rel p t
  unfolding follows
  follows_to h o e b = rw (lt-ltb 0 m h, lt-ltb (p + a) (2 ^ 32) o, ne_eqb t 0 e, lt-ltb rel t b)

  -- the other way: what holds where the chain ends or goes on
  abbrev pub Leading : Option ℕ → Type 0
  Leading None = t ≡ 0
  Leading (Some r) = (t ≡ r) × (rel < r)

  pub follows→facts : (o : Option ℕ) → follows m a rel p t ≡ gives o → (0 < m) × (p + a < 2 ^ 32) × Leading o
  unfolding follows
  follows→facts o h = allowed (ltb 0 m) refl (ltb (p + a) (2 ^ 32)) refl h
    where
      refused : {A : Type 0} {k : ℕ} → refuses k ≡ gives o → A
      refused h = let w : ◌≡◌ {A = ℕ} 0 1 = cc in absurd (omega arith)

      above : (o : Option ℕ) (b : Bool) → ltb rel t ≡ b → pick b (gives (Some t)) (refuses 5) ≡ gives o → Leading o
      above None true q h = let w : ◌≡◌ {A = ℕ} 0 1 = cc in absurd (omega arith)
      above (Some r) true q h =
          let z : t ≡ r = cc in
          (z, rw z at (ltb-true rel t q))
      above o false q h = let w : ◌≡◌ {A = ℕ} 0 1 = cc in absurd (omega arith)

      leading : (o : Option ℕ) (b : Bool) → eqb t 0 ≡ b → by_link (gives None) (λ r. pick (ltb rel r) (gives (Some r)) (refuses 5)) (pick b None (Some t)) ≡ gives o → Leading o
      leading None true q h = eqb-true t 0 q
      leading (Some r) true q h = let w : ◌≡◌ {A = ℕ} 0 1 = cc in absurd (omega arith)
      leading o false q h = above o (ltb rel t) refl h

      allowed : (b : Bool) → ltb 0 m ≡ b → (c : Bool) → ltb (p + a) (2 ^ 32) ≡ c
          → pick b (pick c (by_link (gives None) (λ r. pick (ltb rel r) (gives (Some r)) (refuses 5)) (leads_to t)) (refuses 7)) (refuses 6) ≡ gives o
          → (0 < m) × (p + a < 2 ^ 32) × Leading o
      allowed true q true u h = (ltb-true 0 m q, ltb-true (p + a) (2 ^ 32) u, leading o (eqb t 0) refl h)
      allowed true q false u h = refused h
      allowed false q c u h = refused h
