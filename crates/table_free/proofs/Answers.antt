-- What an answer says determines it. Assumes nothing.
use Rattle.std.specs.Prelude.{Option, Some, None, Result, Ok, Err}
use Rattle.base.proofs.Readings.{refusal_of, number-back}
use Rattle.base.specs.declared.Refusal.{Refusal}
use mathlib.Core.Path.{◌≡◌, refl, ap}
use mathlib.Core.List.{List, [], ◌∷◌}
use Prim.Native.Nat.{ℕ}
use Rattle.base.proofs.Readings.{undone-injective, from_said}
use Rattle.table_free.specs.declared.Run.{Run}
use Rattle.table_free.specs.Free.{gap_said, ends_said}

pub gap-injective : (a b : Result (Option Run) Refusal) → gap_said a ≡ gap_said b → a ≡ b
gap-injective = undone-injective gap_said (from_said gap_of (λ k. Err (refusal_of k))) back
  where
    -- the answer of no run, or of one
    gap_of : List Run → Result (Option Run) Refusal
    gap_of [] = Ok None
    gap_of (r ∷ rs) = Ok (Some r)

    back : (a : Result (Option Run) Refusal) → from_said gap_of (λ k. Err (refusal_of k)) (gap_said a) ≡ a
    back (Ok None) = refl
    back (Ok (Some r)) = refl
    back (Err r) = ap Err (number-back r)

pub ends-injective : (a b : Result (Option (ℕ × ℕ)) Refusal) → ends_said a ≡ ends_said b → a ≡ b
ends-injective = undone-injective ends_said (from_said ends_from (λ k. Err (refusal_of k))) back
  where
    -- the answer of no position, or of two
    ends_from : List ℕ → Result (Option (ℕ × ℕ)) Refusal
    ends_from [] = Ok None
    ends_from (m ∷ []) = Ok None
    ends_from (m ∷ n ∷ ns) = Ok (Some (m, n))

    back : (a : Result (Option (ℕ × ℕ)) Refusal) → from_said ends_from (λ k. Err (refusal_of k)) (ends_said a) ≡ a
    back (Ok None) = refl
    back (Ok (Some (m, n))) = refl
    back (Err r) = ap Err (number-back r)
