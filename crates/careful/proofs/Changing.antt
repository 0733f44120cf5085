-- From the refusals and stores of a change to what it says of an extract. Assumes nothing.
use Rattle.base.specs.declared.Refusal.{Refusal}
use mathlib.Core.Path.{◌≡◌, refl, ap, sym, subst, ◌∙◌}
use mathlib.Core.Bool.{Bool, true, false}
use Rattle.std.specs.Prelude.{None, Some, Result}
use mathlib.Core.List.{List, [], ◌∷◌}
use Prim.Native.Nat.{ℕ}
use native.Mathlib.Omega.{arith}
use Rattle.base.specs.Pick.{pick}
use Rattle.base.specs.Put.{put}
use Rattle.base.specs.Said.{answered, Said, gives, refuses, failure}
use Rattle.base.specs.Checks.{Check, checked, answer}
use Rattle.read_table.specs.Read.{Table, table_for}
use Rattle.table_push.proofs.Steps.{and-answer}
use Rattle.sound.specs.Sound.{Contents, contents_of}
use Rattle.careful.specs.Careful.{contents, Change, changing}
use Rattle.careful.specs.Output.{stores_bytes, out_after, count_of, stores_counted}
use Rattle.careful.proofs.Crate.{contents-of}
use Rattle.careful_stores.specs.Behind.{Tells}

-- the bytes after a change, by its refusals and stores
out-answer : (old : List ℕ) (cs : List Check) (ch : Change) → out_after old (answer cs ch) ≡ checked cs (λ j. old) (put old 0 (stores_bytes ch.stores))
unfolding out_after
out-answer old [] ch = refl
out-answer old (c ∷ cs) ch = go c.holds (out-answer old cs ch)
  where
    go : (b : Bool) → out_after old (answer cs ch) ≡ checked cs (λ j. old) (put old 0 (stores_bytes ch.stores))
        → out_after old (pick b (answer cs ch) (refuses c.number)) ≡ pick b (checked cs (λ j. old) (put old 0 (stores_bytes ch.stores))) old
    go true ih = ih
    go false ih = refl

module _ (cs : Contents → List Check) (ch : Contents → Change) where
  pub read-refused : (s : Said Table) (old : List ℕ) (k : ℕ) → failure s ≡ Some k → (refuses k ≡ stores_counted (changing cs ch s)) × (old ≡ out_after old (changing cs ch s))
  unfolding out_after
  read-refused (gives t) old k h = let w : ◌≡◌ {A = ℕ} 0 1 = cc in absurd (omega arith)
  read-refused (refuses j) old k h =
      let e : k ≡ j = cc in
      (ap refuses e, refl)

  pub read_told : (s : Said Table) (r : Result ℕ Refusal) (old new : List ℕ) → failure s ≡ None → Tells r old new (cs (contents_of (table_for s))) (ch (contents_of (table_for s))).stores
      → (answered r ≡ stores_counted (changing cs ch s)) × (new ≡ out_after old (changing cs ch s))
  read_told (refuses j) r old new h t = let w : ◌≡◌ {A = ℕ} 0 1 = cc in absurd (omega arith)
  read_told (gives t) r old new h w =
      let u : Tells r old new (cs (contents t)) (ch (contents t)).stores = subst (λ (c : Contents). Tells r old new (cs c) (ch c).stores) (contents-of t) w in (
        u.0 ∙ sym (and-answer (cs (contents t)) (ch (contents t)) (λ c. gives (count_of c))),
        u.1 ∙ sym (out-answer old (cs (contents t)) (ch (contents t))),
      )
