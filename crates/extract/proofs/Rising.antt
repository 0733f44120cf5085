-- One turn of the scan over the LBAs. Assumes nothing.
use mathlib.Core.Path.{◌≡◌, refl, ap}
use mathlib.Core.List.{List, [], ◌∷◌}
use mathlib.Core.Bool.{Bool, true, false}
use Prim.Native.Nat.{ℕ, suc, ◌+◌, ◌-◌, ◌≤◌, ◌<◌}
use native.Mathlib.Omega.{arith}
use native.Mathlib.Numerals.{add-one}
use lib.Dec.{leb, ltb}
use borrow.Author.Tests.{le-leb, lt-leb, leb-true, leb-false}
use Rattle.std.specs.Prelude.{Option, None, Some}
use Rattle.base.specs.Pick.{pick}
use Rattle.base.specs.Checks.{first-fail}
use Rattle.extract.specs.Extract.{lba_at, lbas_from, ascending, all_below, lba_checks}

-- the refusal of both rules
abbrev bad : Option ℕ
bad = Some 1

-- numbers of which each is at least b, and each at least one more than the one before it
unfoldable pub rising : ℕ → List ℕ → Bool
rising b [] = true
rising b (a ∷ ls) = pick (leb b a) (rising (a + 1) ls) false

ascending-rising : (a : ℕ) (ls : List ℕ) → ascending (a ∷ ls) ≡ rising (a + 1) ls
unfolding ascending rising
ascending-rising a [] = refl
ascending-rising a (b ∷ ls) = rw (ascending-rising b ls, add-one a)

pub rising-zero : (ls : List ℕ) → ascending ls ≡ rising 0 ls
unfolding ascending rising
rising-zero [] = refl
rising-zero (a ∷ ls) = rw (le-leb 0 a (omega arith)) (ascending-rising a ls)

-- the scan's answer from LBA number i on, where the next may be no less than b
abbrev pub from : ℕ → ℕ → List ℕ → Option ℕ
from d b ls = pick (rising b ls) (pick (leb b d) (pick (all_below d ls) None bad) bad) bad

more : (n i : ℕ) → i < n → n - i ≡ suc (n - (i + 1))
more n i h = omega arith

pub lbas-more : (x : List ℕ) (n i : ℕ) → i < n → lbas_from x i (n - i) ≡ lba_at x i ∷ lbas_from x (i + 1) (n - (i + 1))
unfolding lbas_from
lbas-more x n i h = rw (more n i h)

pub lbas-end : (x : List ℕ) (n i : ℕ) → n ≤ i → lbas_from x i (n - i) ≡ []
unfolding lbas_from
lbas-end x n i h =
    let z : n - i ≡ 0 = omega arith in
    rw z

pub scan-start : (d : ℕ) (ls : List ℕ) → first-fail (lba_checks d ls) ≡ from d 0 ls
scan-start d ls = rw (rising-zero ls, le-leb 0 d (omega arith))

scan-fall : (d b a : ℕ) (ls : List ℕ) → a < b → from d b (a ∷ ls) ≡ bad
unfolding rising
scan-fall d b a ls h = rw (lt-leb b a h)

below-turn : (d b a : ℕ) (ls : List ℕ) (t u : Bool) → leb b d ≡ t → leb (a + 1) d ≡ u → b ≤ a
    → pick t (pick (pick u (all_below d ls) false) None bad) bad ≡ pick u (pick (all_below d ls) None bad) bad
below-turn d b a ls true true p q h = refl
below-turn d b a ls true false p q h = refl
below-turn d b a ls false false p q h = refl
below-turn d b a ls false true p q h = absurd (omega (arith, leb-false b d p, leb-true (a + 1) d q))

scan-rise : (d b a : ℕ) (ls : List ℕ) → b ≤ a → from d b (a ∷ ls) ≡ from d (a + 1) ls
unfolding rising all_below
scan-rise d b a ls h =
    let e : leb (a + 1) d ≡ ltb a d = ap (λ (n : ℕ). leb n d) (add-one a) in
    rw (le-leb b a h, ← e, below-turn d b a ls (leb b d) (leb (a + 1) d) refl refl h)

-- a turn
pub turn-fall : (x : List ℕ) (d n i b : ℕ) → i < n → lba_at x i < b → from d b (lbas_from x i (n - i)) ≡ bad
turn-fall x d n i b h l = rw (lbas-more x n i h) (scan-fall d b (lba_at x i) (lbas_from x (i + 1) (n - (i + 1))) l)

pub turn-rise : (x : List ℕ) (d n i b : ℕ) → i < n → b ≤ lba_at x i → from d b (lbas_from x i (n - i)) ≡ from d (lba_at x i + 1) (lbas_from x (i + 1) (n - (i + 1)))
turn-rise x d n i b h l = rw (lbas-more x n i h) (scan-rise d b (lba_at x i) (lbas_from x (i + 1) (n - (i + 1))) l)

-- the end
pub end-past : (x : List ℕ) (d n i b : ℕ) → n ≤ i → d < b → from d b (lbas_from x i (n - i)) ≡ bad
unfolding rising
end-past x d n i b h l = rw (lbas-end x n i h, lt-leb b d l)

pub end-good : (x : List ℕ) (d n i b : ℕ) → n ≤ i → b ≤ d → from d b (lbas_from x i (n - i)) ≡ None
unfolding rising all_below
end-good x d n i b h l = rw (lbas-end x n i h, le-leb b d l)
