-- One number determines the answer that it stands for. Assumes nothing.
use mathlib.Core.Path.{◌≡◌, refl, ap, ◌∙◌}
use mathlib.Core.Bool.{Bool, true, false}
use Rattle.std.specs.Prelude.{Option, None, Some}
use Prim.Native.Nat.{ℕ, ◌*◌, ◌/◌, ◌<◌, ◌≤◌}
use native.Mathlib.Omega.{arith}
use lib.Dec.{eqb, ltb}
use borrow.Author.Tests.{lt-ltb, le-ltb, ne_eqb}
use Rattle.base.specs.Pick.{pick}
use Rattle.base.specs.Said.{Said, gives, refuses}
use Rattle.base.proofs.Readings.{undone-injective-on}
use Rattle.abi_word.specs.Packed.{upper, packed, packed_option, packed_bool, status, InWord, FitsOption, FitsBool, Known}

-- back from a number: the value in its lower half if the upper one is 0, else what the upper one stands for
abbrev pub lower : {A : Type 0} → (ℕ → A) → (ℕ → A) → ℕ → A
lower value other n = pick (ltb n 4294967296) (value n) (other (n / 4294967296))

pub lower-value : {A : Type 0} (value other : ℕ → A) (n : ℕ) → n < 4294967296 → lower value other n ≡ value n
lower-value value other n h = rw (lt-ltb n 4294967296 h)

pub lower-upper : {A : Type 0} (value other : ℕ → A) (k : ℕ) → 1 ≤ k → lower value other (upper k) ≡ other k
lower-upper value other k h =
    let e : k * 4294967296 / 4294967296 ≡ k = omega arith in
    rw (le-ltb (k * 4294967296) 4294967296 (omega arith)) (ap other e)

-- a value below 4,294,967,296, or a refusal above 0
pub packed-injective : (a b : Said ℕ) → InWord a → InWord b → packed a ≡ packed b → a ≡ b
packed-injective = undone-injective-on InWord packed (lower gives refuses) back
  where
    back : (a : Said ℕ) → InWord a → lower gives refuses (packed a) ≡ a
    back (gives v) f = lower-value gives refuses v f
    back (refuses k) f = lower-upper gives refuses k f

-- no refusal, or one above 0
pub status-injective : (a b : Option ℕ) → Known a → Known b → status a ≡ status b → a ≡ b
status-injective = undone-injective-on Known status known back
  where
    known : ℕ → Option ℕ
    known n = pick (eqb n 0) None (Some n)

    back : (a : Option ℕ) → Known a → known (status a) ≡ a
    back None f = refl
    back (Some k) f = rw (ne_eqb k 0 (omega arith))

-- nothing, a value below 4,294,967,296, or a refusal above 0 and below 255
pub packed_option-injective : (a b : Said (Option ℕ)) → FitsOption a → FitsOption b → packed_option a ≡ packed_option b → a ≡ b
packed_option-injective = undone-injective-on FitsOption packed_option (lower present other) back
  where
    present : ℕ → Said (Option ℕ)
    present v = gives (Some v)

    other : ℕ → Said (Option ℕ)
    other k = pick (eqb k 255) (gives None) (refuses k)

    back : (a : Said (Option ℕ)) → FitsOption a → lower present other (packed_option a) ≡ a
    back (gives None) f = lower-upper present other 255 (omega arith)
    back (gives (Some v)) f = lower-value present other v f
    back (refuses k) f = lower-upper present other k (omega arith) ∙ rw (ne_eqb k 255 (omega arith))

-- yes, no, or a refusal above 0
pub packed_bool-injective : (a b : Said Bool) → FitsBool a → FitsBool b → packed_bool a ≡ packed_bool b → a ≡ b
packed_bool-injective = undone-injective-on FitsBool packed_bool (lower truth refuses) back
  where
    truth : ℕ → Said Bool
    truth v = gives (eqb v 1)

    back : (a : Said Bool) → FitsBool a → lower truth refuses (packed_bool a) ≡ a
    back (gives true) f = refl
    back (gives false) f = refl
    back (refuses k) f = lower-upper truth refuses k f
