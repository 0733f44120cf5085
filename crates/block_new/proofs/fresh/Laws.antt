-- A table put into a lent block. Assumes nothing.
use mathlib.Core.Path.{◌≡◌, sym, ap, ◌∙◌}
use mathlib.Core.List.{List}
use Rattle.std.specs.Prelude.{Option, None, Some}
use Prim.Native.Nat.{ℕ}
use lib.ListN.{length}
use Rattle.base.specs.Said.{Said, gives, refuses, failure}
use Rattle.base.specs.Checks.{first-fail}
use Rattle.base.proofs.Checks.{checked-some, checked-none}
use Rattle.table.specs.declared.MBR.{MBR}
use Rattle.block.specs.Block.{put_checks}
use Rattle.block.specs.Blocks.{refusal_number}
use Rattle.block_new.specs.Put.{block_after, alone}

-- what is refused of a table is what its checks refuse
pub put-fails : (t : MBR) (room : ℕ) (o : Option ℕ) → o ≡ first-fail (put_checks t room) → o ≡ failure (alone room (gives t))
put-fails t room None h = sym (ap failure (checked-none (put_checks t room) refuses (gives 0) (sym h)))
put-fails t room (Some k) h = sym (ap failure (checked-some (put_checks t room) refuses (gives 0) k (sym h)))

-- the table that an answer gives, put into lent bytes: the answer and the bytes are those of the answer by value
pub table_done : (s : Said MBR) (t u : MBR) (r : ℕ) (out new : List ℕ) → s ≡ gives t → u ≡ t → r ≡ refusal_number (alone (length out) (gives u))
    → new ≡ block_after out (gives u) → (r ≡ refusal_number (alone (length out) s)) × (new ≡ block_after out s)
table_done s t u r out new e d f g =
    let w : gives u ≡ s = ap gives d ∙ sym e in
    (f ∙ ap (λ (z : Said MBR). refusal_number (alone (length out) z)) w, g ∙ ap (block_after out) w)
