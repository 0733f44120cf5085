-- Answers by refusals in their order: which one they are. Assumes nothing.
use Rattle.base.specs.declared.Refusal.{Refusal}
use mathlib.Core.Path.{◌≡◌, refl, sym, ap, ◌∙◌}
use mathlib.Core.List.{List, ◌++◌}
use Rattle.std.specs.Prelude.{Option, None, Some, Result}
use Prim.Native.Nat.{ℕ}
use lib.ListN.{length}
use Rattle.base.specs.Put.{put}
use Rattle.base.specs.Said.{answered, Said, gives, refuses}
use Rattle.base.specs.Checks.{Check, answer, checked, first-fail}
use Rattle.base.proofs.Checks.{on_fail, checked-fail, append-fails, append-holds, none-fails}
use Rattle.table.specs.declared.MBR.{MBR}
use Rattle.write_rules.specs.Answers.{Put, table_by}

-- the table that an answer by refusals leads to
pub table-checked : (cs : List Check) (n : ℕ) (t u : MBR) → table_by (answer cs n) t u ≡ checked cs (λ k. t) u
table-checked cs n t u =
    ap (λ (s : Said ℕ). table_by s t u) (checked-fail cs refuses (gives n)) ∙ go (first-fail cs) ∙ sym (checked-fail cs (λ k. t) u)
  where
    go : (o : Option ℕ) → table_by (on_fail o refuses (gives n)) t u ≡ on_fail o (λ k. t) u
    go None = refl
    go (Some k) = refl

module _ (a : Result ℕ Refusal) (out after new : List ℕ) (cs ds : List Check) where
  -- the first list fails, or holds
  pub put-fails : (k : ℕ) → first-fail cs ≡ Some k → answered a ≡ refuses k → after ≡ out → Put a out after (cs ++ ds) new
  put-fails k e s l = record {
    says = s ∙ sym (append-fails cs ds k refuses (gives (length new)) e);
    leaves = l ∙ sym (append-fails cs ds k (λ (j : ℕ). out) (put out 0 new) e);
  }

  pub put-skip : first-fail cs ≡ None → Put a out after ds new → Put a out after (cs ++ ds) new
  put-skip e p = record {
    says = p.says ∙ sym (append-holds cs ds refuses (gives (length new)) (none-fails cs e));
    leaves = p.leaves ∙ sym (append-holds cs ds (λ (j : ℕ). out) (put out 0 new) (none-fails cs e));
  }
