-- The place of an LBA on the disk, in bytes. Assumes nothing.
use mathlib.Core.Path.{◌≡◌, ap, ◌∙◌}
use mathlib.Core.Bool.{true}
use Prim.Native.Nat.{ℕ, ◌*◌, ◌%◌, ◌^◌, ◌<◌}
use native.Mathlib.Omega.{arith}
use lib.Pow.{shl_exact}
use lib.Count.{count_trailing_zeros}
use Rattle.base.specs.Said.{gives}
use Rattle.extract.specs.Rules.{size_ok}
use Rattle.extract.proofs.header_rules.Size.{shift-size}
use Rattle.extract.specs.Answers.{place_says}

-- an LBA shifted is within 64 bits: nothing is lost
pub place-said : (s a : ℕ) → size_ok s ≡ true → a < 2 ^ 32 → gives (a * 2 ^ count_trailing_zeros 32 s % 2 ^ 64) ≡ place_says s a
unfolding place_says
place-said s a h b =
    let k = shift-size s h in
    let p : a * 2 ^ count_trailing_zeros 32 s % 2 ^ 64 ≡ a * 2 ^ count_trailing_zeros 32 s = shl_exact 32 (count_trailing_zeros 32 s) 64 b (omega (arith, k.1)) in
    rw h (ap gives (p ∙ ap (λ (n : ℕ). a * n) k.0))
