-- Bytes, and numbers in them, over the width and the byte order. Assumes nothing.
use Rattle.std.specs.Prelude.{ℕ, zero, suc, ◌+◌, ◌*◌, ◌/◌, ◌%◌, ◌<◌, List, [], ◌∷◌, reverse, ◌≡◌, Bool, true, ◌&&◌, eqb, length, get_or}

-- every element is a byte
abbrev pub Bytes : List ℕ → Type 0
Bytes [] = Unit {0}
Bytes (b ∷ bs) = (b < 256) × Bytes bs

-- a boot sector's first 512 bytes
pub record Record (r : List ℕ) : Type 0 where
  pub long : length r ≡ 512
  pub bytes : Bytes r

-- its last two bytes (rules M10 and B5)
abbrev pub signature : List ℕ
signature = 0x55 ∷ 0xAA ∷ []

-- at + k, where at + 0 is at
abbrev pub plus : ℕ → ℕ → ℕ
plus at zero = at
plus at (suc k) = at + suc k

abbrev pub from : List ℕ → ℕ → ℕ → ℕ → List ℕ
from s at k zero = []
from s at k (suc n) = get_or s (plus at k) 0 ∷ from s at (suc k) n

-- the n bytes of s from index at on; past the end, zeros
abbrev pub bytes_at : List ℕ → ℕ → ℕ → List ℕ
bytes_at s at n = from s at 0 n

-- does the word stand in s from index at on
abbrev pub stands_at : List ℕ → ℕ → List ℕ → Bool
stands_at s at [] = true
stands_at s at (w ∷ ws) = eqb (get_or s at 0) w && stands_at s (at + 1) ws

-- which byte of a number stands first
pub data Order : Type 0 where
  little : Order
  big : Order

-- least first
abbrev pub in_order : Order → List ℕ → List ℕ
in_order little bs = bs
in_order big bs = reverse bs

-- the number whose bytes, least first, are bs
abbrev pub sum : List ℕ → ℕ
sum [] = 0
sum (b ∷ bs) = b + 256 * sum bs

-- the n lowest bytes of v, least first
abbrev pub digits : ℕ → ℕ → List ℕ
digits zero v = []
digits (suc n) v = v % 256 ∷ digits n (v / 256)

-- the number in bytes (rule G7)
abbrev pub number : Order → List ℕ → ℕ
number o bs = sum (in_order o bs)

-- a number's n bytes (rules G7 and Z9)
abbrev pub bytes_of : Order → ℕ → ℕ → List ℕ
bytes_of o n v = in_order o (digits n v)

-- numbers of n bytes are below this: 256 ^ n
abbrev pub top : ℕ → ℕ
top zero = 1
top (suc n) = 256 * top n
