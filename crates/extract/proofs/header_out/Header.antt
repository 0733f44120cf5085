-- The length of an extract's header. Assumes nothing.
use mathlib.Core.Path.{◌≡◌, refl}
use Prim.Native.Nat.{ℕ}
use lib.ListN.{length}
use Rattle.extract.specs.Header.{header_bytes}

pub length-header : (z d n : ℕ) → length (header_bytes z d n) ≡ 24
unfolding header_bytes
length-header z d n = refl
