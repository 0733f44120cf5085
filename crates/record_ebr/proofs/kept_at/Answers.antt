use mathlib.Core.Path.{◌≡◌, ap, ◌∙◌}
use mathlib.Core.List.{List}
use Prim.Native.Nat.{ℕ, ◌+◌, ◌-◌, ◌≤◌}
use native.Mathlib.Omega.{arith}
use lib.ListN.{length, take, drop, length-drop}
use Rattle.base.specs.Put.{put}
use Rattle.base.proofs.Put.{put_front}
use Rattle.record_ebr.specs.Ebr.{mark_length, kept_at}
use borrow.Author.Rules.{rules}
use Rattle.record_ebr.proofs.kept_at.Goals as goal

-- n elements from index at on, copied over all of a list of n
copied : (d e s : List ℕ) (at n : ℕ) → length d ≡ n → at + n ≤ length s → e ≡ put d 0 (take (at + n - at) (drop at s)) → e ≡ take n (drop at s)
copied d e s at n l h p =
    let z : at + n - at ≡ n = omega arith in
    put_front d e (drop at s) n l (omega (arith, length-drop at s)) (p ∙ ap (λ (k : ℕ). put d 0 (take k (drop at s))) z)

pub returns : goal.returns
unfolding kept_at
returns c =
    let e : _ ≡ take 446 (drop c.args.code c.args.r.now) = copied _ _ c.args.r.now c.args.code 446 (search rules) c.requires.0 c.copy_in.ensures in
    let f : _ ≡ take mark_length (drop c.args.mark c.args.r.now) = copied _ _ c.args.r.now c.args.mark mark_length (search rules) c.requires.1 c.copy_in-2.ensures in
    rw (e, f)
