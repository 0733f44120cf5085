-- A part of a block. Assumes nothing.
use mathlib.Core.Path.{◌≡◌, refl}
use mathlib.Core.List.{List}
use Prim.Native.Nat.{ℕ, ◌+◌, ◌-◌, ◌≤◌}
use native.Mathlib.Omega.{arith}
use lib.ListN.{length, take, drop, length-drop}
use lib.Seq.{length-take-le}
use Rattle.block.specs.Block.{part}

-- a part of a slice
pub part-is : (b : List ℕ) (at n : ℕ) → at + n ≤ length b
    → (take (at + n - at) (drop at b) ≡ part b at n) × (length (take (at + n - at) (drop at b)) ≡ n)
unfolding part
part-is b at n h =
    let z : at + n - at ≡ n = omega arith in
    let l : n ≤ length (drop at b) = omega (arith, length-drop at b) in
    rw z (refl, length-take-le n (drop at b) l)
