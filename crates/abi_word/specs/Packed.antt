-- How an answer crosses as one number: the value, or 4,294,967,296 times the refusal's number. Assumes nothing.
use Rattle.std.specs.Prelude.{ℕ, ◌*◌, ◌<◌, ◌≤◌, Bool, true, false}
use Rattle.std.specs.Prelude.{Option, None, Some}
use Rattle.base.specs.Said.{Said, gives, refuses}

-- the number of a refusal in the upper half
abbrev pub upper : ℕ → ℕ
upper k = k * 4294967296

-- rule Z19: a value below 4,294,967,296, or a refusal
abbrev pub packed : Said ℕ → ℕ
packed (gives v) = v
packed (refuses k) = upper k

-- rule Z19: a refusal, or 0
abbrev pub status : Option ℕ → ℕ
status None = 0
status (Some k) = k

-- rule Z19: nothing is 255, in the upper half where there is one, which is no refusal's number (rule Z27)
abbrev pub nothing : ℕ
nothing = 255

abbrev pub packed_option : Said (Option ℕ) → ℕ
packed_option (gives None) = upper nothing
packed_option (gives (Some v)) = v
packed_option (refuses k) = upper k

-- rule Z19: yes is 1, no is 0
abbrev pub packed_bool : Said Bool → ℕ
packed_bool (gives true) = 1
packed_bool (gives false) = 0
packed_bool (refuses k) = upper k

-- what one number can hold: a value of 32 bits, a refusal's number above 0
abbrev pub InWord : Said ℕ → Type 0
InWord (gives v) = v < 4294967296
InWord (refuses k) = 1 ≤ k

abbrev pub Known : Option ℕ → Type 0
Known None = 0 ≤ 0
Known (Some k) = 1 ≤ k

-- a refusal's number is not that of nothing
abbrev pub FitsOption : Said (Option ℕ) → Type 0
FitsOption (gives None) = 0 ≤ 0
FitsOption (gives (Some v)) = v < 4294967296
FitsOption (refuses k) = (1 ≤ k) × (k < nothing)

abbrev pub FitsBool : Said Bool → Type 0
FitsBool (gives b) = 0 ≤ 0
FitsBool (refuses k) = 1 ≤ k
