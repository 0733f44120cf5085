-- A reading with a left inverse is injective, so what an answer says determines it; and the inverses that the readings share. Assumes nothing.
use Prim.Native.Nat.{ℕ}
use Rattle.std.specs.Prelude.{Option, None, Some}
use mathlib.Core.Path.{◌≡◌, refl, sym, ap, ◌∙◌}
use lib.Dec.{eqb}
use Rattle.base.specs.Pick.{pick}
use Rattle.base.specs.Said.{Said, gives, refuses, refusal_code}
use Rattle.base.specs.declared.Refusal.{Refusal}
use Rattle.base.specs.declared.Refusal.TheVariants.{BadExtract, PastDisk, InvalidSignature, InvalidBootFlag, InconsistentEBR, TooManyLogicals, Arithmetic, NoExtendedPartition, NotEnoughSectorsToCreateLogicalPartition, EBRStartsBeforeExtendedPartition, EBRStartsTooCloseToTheEndOfExtendedPartition, EBREndsAfterExtendedPartition, LBAExceedsMaximumCHS, LBAExceedsMaximumCylinders, PartitionNotFound, NoSpaceLeft, NoSuchLogical, MissingLinkFields, OutputTooShort, NotSound, NoGap, TooManyRecords, BadRequest, BlockLength, BlockTag}

-- where it has one
pub undone-injective-on : {A B : Type 0} (P : A → Type 0) (f : A → B) (g : B → A) → ((a : A) → P a → g (f a) ≡ a) → (a b : A) → P a → P b → f a ≡ f b → a ≡ b
undone-injective-on P f g back a b p q h = sym (back a p) ∙ ap g h ∙ back b q

-- everywhere
pub undone-injective : {A B : Type 0} (f : A → B) (g : B → A) → ((a : A) → g (f a) ≡ a) → (a b : A) → f a ≡ f b → a ≡ b
undone-injective f g back a b = undone-injective-on (λ _. Unit {0}) f g (λ c _. back c) a b tt tt

-- back from a value or a refusal
abbrev pub from_said : {A B : Type 0} → (A → B) → (ℕ → B) → Said A → B
from_said value refused (gives a) = value a
from_said value refused (refuses k) = refused k

-- back from a value or nothing
abbrev pub from_option : {A B : Type 0} → (A → B) → B → Option A → B
from_option value nothing (Some a) = value a
from_option value nothing None = nothing

-- the refusal of a number
abbrev pub refusal_of : ℕ → Refusal
refusal_of k = pick (eqb k 1) BadExtract (pick (eqb k 2) PastDisk (pick (eqb k 3) InvalidSignature (pick (eqb k 4) InvalidBootFlag (pick (eqb k 5) InconsistentEBR (pick (eqb k 6) TooManyLogicals (pick (eqb k 7) Arithmetic (pick (eqb k 8) NoExtendedPartition (pick (eqb k 9) NotEnoughSectorsToCreateLogicalPartition (pick (eqb k 10) EBRStartsBeforeExtendedPartition (pick (eqb k 11) EBRStartsTooCloseToTheEndOfExtendedPartition (pick (eqb k 12) EBREndsAfterExtendedPartition (pick (eqb k 13) LBAExceedsMaximumCHS (pick (eqb k 14) LBAExceedsMaximumCylinders (pick (eqb k 15) PartitionNotFound (pick (eqb k 16) NoSpaceLeft (pick (eqb k 17) NoSuchLogical (pick (eqb k 18) MissingLinkFields (pick (eqb k 19) OutputTooShort (pick (eqb k 20) NotSound (pick (eqb k 21) NoGap (pick (eqb k 22) TooManyRecords (pick (eqb k 23) BadRequest (pick (eqb k 101) BlockLength BlockTag)))))))))))))))))))))))

pub number-back : (r : Refusal) → refusal_of (refusal_code r) ≡ r
number-back BadExtract = refl
number-back PastDisk = refl
number-back InvalidSignature = refl
number-back InvalidBootFlag = refl
number-back InconsistentEBR = refl
number-back TooManyLogicals = refl
number-back Arithmetic = refl
number-back NoExtendedPartition = refl
number-back NotEnoughSectorsToCreateLogicalPartition = refl
number-back EBRStartsBeforeExtendedPartition = refl
number-back EBRStartsTooCloseToTheEndOfExtendedPartition = refl
number-back EBREndsAfterExtendedPartition = refl
number-back LBAExceedsMaximumCHS = refl
number-back LBAExceedsMaximumCylinders = refl
number-back PartitionNotFound = refl
number-back NoSpaceLeft = refl
number-back NoSuchLogical = refl
number-back MissingLinkFields = refl
number-back OutputTooShort = refl
number-back NotSound = refl
number-back NoGap = refl
number-back TooManyRecords = refl
number-back BadRequest = refl
number-back BlockLength = refl
number-back BlockTag = refl
