-- A block that passes its checks or fails one, and what is then said of a call on it. Assumes nothing.
use mathlib.Core.Path.{◌≡◌, refl, sym, ap, ◌∙◌}
use Rattle.std.specs.Prelude.{Option, None, Some}
use mathlib.Core.List.{List}
use Prim.Native.Nat.{ℕ, ◌≤◌}
use borrow.Author.Tests.{eqb-true, leb-true, eq-eqb, le-leb}
use Rattle.base.specs.Said.{Said, gives, refuses, and_then, failure, value_or}
use Rattle.base.specs.Checks.{first-fail}
use Rattle.base.proofs.Checks.{checked-some, checked-none, none-fails}
use Rattle.table.specs.declared.MBR.{MBR}
use Rattle.block.specs.Block.{table_in, block_checks, Passed}
use Rattle.block.specs.Blocks.{block_says, bytes_after, table_after}
use Rattle.base.specs.Bytes.{number, bytes_at, little}
use Rattle.table.specs.Table.{most}
use Rattle.block.proofs.Inside.{count-in}

pub block_refused : (b : List ℕ) (k : ℕ) → first-fail (block_checks b) ≡ Some k → block_says b ≡ refuses k
block_refused b k h = checked-some (block_checks b) refuses (gives (table_in b)) k h

pub block-done : (b : List ℕ) (t : MBR) → first-fail (block_checks b) ≡ None → t ≡ table_in b → block_says b ≡ gives t
block-done b t h e = checked-none (block_checks b) refuses (gives (table_in b)) h ∙ ap gives (sym e)

-- a block passes its checks, or none of them fails on it
pub passed : (b : List ℕ) → first-fail (block_checks b) ≡ None → Passed b
passed b h =
    let p = none-fails (block_checks b) h in
    record { long = eqb-true _ _ p.0; few = rw (count-in b) (leb-true _ _ p.1.0); tags = p.1.1.0 }

pub passes : (b : List ℕ) → Passed b → first-fail (block_checks b) ≡ None
passes b g =
    let c : number little (bytes_at b 12 4) ≤ most = rw (count-in b) at g.few in
    rw (eq-eqb _ _ g.long, le-leb _ _ c, g.tags)

-- a block changed where it lies: it is refused, or the change is made
pub on-refused : {A : Type 0} (b : List ℕ) (f : MBR → Said A) (g : MBR → Said (List ℕ)) (k : ℕ) → first-fail (block_checks b) ≡ Some k
    → (and_then (block_says b) f ≡ refuses k) × (b ≡ bytes_after b g)
on-refused b f g k h =
    let e = block_refused b k h in
    (ap (λ (s : Said MBR). and_then s f) e, sym (ap (λ (s : Said MBR). value_or b (and_then s g)) e))

pub on-done : {A : Type 0} (b new : List ℕ) (f : MBR → Said A) (g : MBR → Said (List ℕ)) → first-fail (block_checks b) ≡ None → new ≡ value_or b (g (table_in b))
    → (and_then (block_says b) f ≡ f (table_in b)) × (new ≡ bytes_after b g)
on-done b new f g h e =
    let d = block-done b (table_in b) h refl in
    (ap (λ (s : Said MBR). and_then s f) d, e ∙ sym (ap (λ (s : Said MBR). value_or b (and_then s g)) d))

-- what a look at it answers
pub look-refused : {A : Type 0} (b : List ℕ) (f : MBR → Said A) (k : ℕ) → first-fail (block_checks b) ≡ Some k → refuses k ≡ and_then (block_says b) f
look-refused b f k h = sym (ap (λ (s : Said MBR). and_then s f) (block_refused b k h))

pub look-done : {A : Type 0} (b : List ℕ) (f : MBR → Said A) (z : Said A) → first-fail (block_checks b) ≡ None → z ≡ f (table_in b) → z ≡ and_then (block_says b) f
look-done b f z h e = e ∙ sym (ap (λ (s : Said MBR). and_then s f) (block-done b (table_in b) h refl))

-- what a call on it answers
pub says-refused : {A : Type 0} (b : List ℕ) (f : MBR → Said A) (g : MBR → Said (List ℕ)) (k : ℕ) → first-fail (block_checks b) ≡ Some k
    → (refuses k ≡ and_then (block_says b) f) × (b ≡ bytes_after b g)
says-refused b f g k h =
    let w = on-refused b f g k h in
    (sym w.0, w.1)

pub fails-refused : {A : Type 0} (b : List ℕ) (f : MBR → Said A) (g : MBR → Said (List ℕ)) (k : ℕ) → first-fail (block_checks b) ≡ Some k
    → (Some k ≡ failure (and_then (block_says b) f)) × (b ≡ bytes_after b g)
fails-refused b f g k h =
    let w = on-refused b f g k h in
    (sym (ap failure w.0), w.1)

pub says-done : {A : Type 0} (b new : List ℕ) (f : MBR → Said A) (g : MBR → Said (List ℕ)) (z : Said A) → first-fail (block_checks b) ≡ None
    → z ≡ f (table_in b) → new ≡ value_or b (g (table_in b)) → (z ≡ and_then (block_says b) f) × (new ≡ bytes_after b g)
says-done b new f g z h v e =
    let w = on-done b new f g h e in
    (v ∙ sym w.0, w.1)

pub fails-done : {A : Type 0} (b new : List ℕ) (f : MBR → Said A) (g : MBR → Said (List ℕ)) (z : Option ℕ) → first-fail (block_checks b) ≡ None
    → z ≡ failure (f (table_in b)) → new ≡ value_or b (g (table_in b)) → (z ≡ failure (and_then (block_says b) f)) × (new ≡ bytes_after b g)
fails-done b new f g z h v e =
    let w = on-done b new f g h e in
    (v ∙ sym (ap failure w.0), w.1)

-- the table in it
pub after-refused : (b : List ℕ) (f : MBR → MBR) (k : ℕ) → first-fail (block_checks b) ≡ Some k → block_says b ≡ table_after b f
after-refused b f k h =
    let e = block_refused b k h in
    e ∙ sym (ap (λ (s : Said MBR). and_then s (λ (t : MBR). gives (f t))) e)

pub after-done : (b new c : List ℕ) (f : MBR → MBR) → first-fail (block_checks b) ≡ None → new ≡ c → block_says c ≡ gives (f (table_in b)) → block_says new ≡ table_after b f
after-done b new c f h p e =
    ap block_says p ∙ e ∙ sym (ap (λ (s : Said MBR). and_then s (λ (t : MBR). gives (f t))) (block-done b (table_in b) h refl))

pub after : (b : List ℕ) (g : MBR → Said (List ℕ)) (f : MBR → MBR) → (first-fail (block_checks b) ≡ None → block_says (value_or b (g (table_in b))) ≡ gives (f (table_in b)))
    → block_says (bytes_after b g) ≡ table_after b f
after b g f p = go (first-fail (block_checks b)) refl
  where
    go : (o : Option ℕ) → first-fail (block_checks b) ≡ o → block_says (bytes_after b g) ≡ table_after b f
    go None h = after-done b (bytes_after b g) (value_or b (g (table_in b))) f h (sym (on-done b _ g g h refl).1) (p h)
    go (Some k) h = ap block_says (sym (on-refused b g g k h).1) ∙ after-refused b f k h
