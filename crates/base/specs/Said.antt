-- What a call says: a value, or a refusal's number. Assumes nothing.
use Rattle.std.specs.Prelude.{ℕ, Result, Ok, Err}
use Rattle.std.specs.Prelude.{Option, None, Some}
use Rattle.base.specs.declared.Refusal.{Refusal}
use Rattle.base.specs.declared.Refusal.TheVariants.{BadExtract, PastDisk, InvalidSignature, InvalidBootFlag, InconsistentEBR, TooManyLogicals, Arithmetic, NoExtendedPartition, NotEnoughSectorsToCreateLogicalPartition, EBRStartsBeforeExtendedPartition, EBRStartsTooCloseToTheEndOfExtendedPartition, EBREndsAfterExtendedPartition, LBAExceedsMaximumCHS, LBAExceedsMaximumCylinders, PartitionNotFound, NoSpaceLeft, NoSuchLogical, MissingLinkFields, OutputTooShort, NotSound, NoGap, TooManyRecords, BadRequest, BlockLength, BlockTag}

pub data Said (A : Type 0) : Type 0 where
  gives : A → Said A
  refuses : ℕ → Said A

-- go on with the value; a refusal stays
abbrev pub and_then : {A B : Type 0} → Said A → (A → Said B) → Said B
and_then (gives a) f = f a
and_then (refuses k) f = refuses k

-- the number of the refusal, if it is one
abbrev pub failure : {A : Type 0} → Said A → Option ℕ
failure (gives a) = None
failure (refuses k) = Some k

-- the value, or what stands in its place (rule G2)
abbrev pub value_or : {A : Type 0} → A → Said A → A
value_or other (gives a) = a
value_or other (refuses k) = other

-- the number of a refusal (rule G1)
abbrev pub refusal_code : Refusal → ℕ
refusal_code BadExtract = 1
refusal_code PastDisk = 2
refusal_code InvalidSignature = 3
refusal_code InvalidBootFlag = 4
refusal_code InconsistentEBR = 5
refusal_code TooManyLogicals = 6
refusal_code Arithmetic = 7
refusal_code NoExtendedPartition = 8
refusal_code NotEnoughSectorsToCreateLogicalPartition = 9
refusal_code EBRStartsBeforeExtendedPartition = 10
refusal_code EBRStartsTooCloseToTheEndOfExtendedPartition = 11
refusal_code EBREndsAfterExtendedPartition = 12
refusal_code LBAExceedsMaximumCHS = 13
refusal_code LBAExceedsMaximumCylinders = 14
refusal_code PartitionNotFound = 15
refusal_code NoSpaceLeft = 16
refusal_code NoSuchLogical = 17
refusal_code MissingLinkFields = 18
refusal_code OutputTooShort = 19
refusal_code NotSound = 20
refusal_code NoGap = 21
refusal_code TooManyRecords = 22
refusal_code BadRequest = 23
refusal_code BlockLength = 101
refusal_code BlockTag = 102

-- a value is the value; an error is the refusal of its number
abbrev pub answered : {A : Type 0} → Result A Refusal → Said A
answered (Ok a) = gives a
answered (Err r) = refuses (refusal_code r)

-- a value is no refusal; an error is the refusal of its number
abbrev pub refusal : {A : Type 0} → Result A Refusal → Option ℕ
refusal (Ok a) = None
refusal (Err r) = Some (refusal_code r)
