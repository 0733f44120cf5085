-- What the library says of a table is what its answer says, and the table in it. Assumes nothing.
use mathlib.Core.Path.{◌≡◌, ap, ◌∙◌}
use mathlib.Core.List.{List}
use Prim.Native.Nat.{ℕ}
use lib.ListN.{length}
use native.Mathlib.Omega.{arith}
use Rattle.std.specs.Prelude.{Result, Ok, Err, IfOk}
use Rattle.base.specs.declared.Refusal.{Refusal}
use Rattle.base.specs.Said.{Said, gives, refuses, refusal_code, answered, failure, refusal, value_or}
use Rattle.table.specs.declared.MBR.{MBR}
use Rattle.block.specs.Blocks.{refusal_number}
use Rattle.block_new.specs.Put.{block_after, alone}

given_is : (a : Result MBR Refusal) (o : MBR) (s : Said MBR) → refusal a ≡ failure s → IfOk a (λ t. t ≡ value_or o s) → answered a ≡ s
given_is (Ok t) o (gives u) h e = ap gives e
given_is (Ok t) o (refuses k) h e = let w : ◌≡◌ {A = ℕ} 0 1 = cc in absurd (omega arith)
given_is (Err r) o (gives u) h e = let w : ◌≡◌ {A = ℕ} 0 1 = cc in absurd (omega arith)
given_is (Err r) o (refuses k) h e =
    let w : refusal_code r ≡ k = cc in
    ap refuses w

-- put into lent bytes
pub given-done : (a : Result MBR Refusal) (o : MBR) (s : Said MBR) (r : ℕ) (out new : List ℕ) → refusal a ≡ failure s → IfOk a (λ t. t ≡ value_or o s)
    → r ≡ refusal_number (alone (length out) (answered a)) → new ≡ block_after out (answered a) → (r ≡ refusal_number (alone (length out) s)) × (new ≡ block_after out s)
given-done a o s r out new h e p q =
    let w : answered a ≡ s = given_is a o s h e in
    (p ∙ ap (λ (z : Said MBR). refusal_number (alone (length out) z)) w, q ∙ ap (block_after out) w)
