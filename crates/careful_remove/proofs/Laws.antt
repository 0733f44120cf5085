-- From refusals and store to what a careful removal says. Assumes nothing.
use Rattle.base.specs.declared.Refusal.{Refusal}
use mathlib.Core.Path.{◌≡◌, subst}
use Rattle.std.specs.Prelude.{None, Some, Result}
use mathlib.Core.List.{List}
use Prim.Native.Nat.{ℕ}
use Rattle.base.specs.Said.{answered, refuses, failure}
use Rattle.table.specs.declared.MBR.{MBR}
use Rattle.read_table.specs.Read.{read_says, table_for}
use Rattle.sound.specs.Sound.{contents_of}
use Rattle.careful.specs.Careful.{remove_refusals, remove_change, careful_remove_says}
use Rattle.careful.specs.Output.{out_after, stores_counted}
use Rattle.careful_stores.specs.Behind.{Tells}
use Rattle.careful.proofs.Changing.{read-refused, read_told}

-- from the refusals and the store to what a careful removal says
module _ (x : List ℕ) (room : ℕ) where
  pub remove-unread : (n : ℕ) (old : List ℕ) (k : ℕ) → failure (read_says x) ≡ Some k
      → (refuses k ≡ stores_counted (careful_remove_says x room n)) × (old ≡ out_after old (careful_remove_says x room n))
  unfolding careful_remove_says
  remove-unread n old k h = read-refused (remove_refusals room n) (remove_change n) (read_says x) old k h

  pub remove-read : (n : ℕ) (r : Result ℕ Refusal) (old new : List ℕ) (t : MBR) → failure (read_says x) ≡ None → t ≡ table_for (read_says x)
      → Tells r old new (remove_refusals room n (contents_of t)) (remove_change n (contents_of t)).stores
      → (answered r ≡ stores_counted (careful_remove_says x room n)) × (new ≡ out_after old (careful_remove_says x room n))
  unfolding careful_remove_says
  remove-read n r old new t h e w =
      read_told (remove_refusals room n) (remove_change n) (read_says x) r old new h
      (subst (λ (m : MBR). Tells r old new (remove_refusals room n (contents_of m)) (remove_change n (contents_of m)).stores) e w)
