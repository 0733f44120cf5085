-- Rows split, joined and changed. Assumes nothing.
use mathlib.Core.Path.{◌≡◌, refl}
use Rattle.std.specs.Prelude.{Option}
use mathlib.Core.List.{List, [], ◌∷◌, ◌++◌}
use Rattle.base.specs.Row.{next, Row}

module _ {A : Type 0} where
  pub next-append : (xs ys : List A) (n : Option A) → next (xs ++ ys) n ≡ next xs (next ys n)
  next-append [] ys n = refl
  next-append (x ∷ xs) ys n = refl

  module _ (P : A → Option A → Type 0) where
    pub row-left : (xs ys : List A) (n : Option A) → Row P (xs ++ ys) n → Row P xs (next ys n)
    row-left [] ys n r = tt
    row-left (x ∷ xs) ys n r = (rw (next-append xs ys n) at r.0, row-left xs ys n r.1)

    pub row-right : (xs ys : List A) (n : Option A) → Row P (xs ++ ys) n → Row P ys n
    row-right [] ys n r = r
    row-right (x ∷ xs) ys n r = row-right xs ys n r.1

    pub row-join : (xs ys : List A) (n : Option A) → Row P xs (next ys n) → Row P ys n → Row P (xs ++ ys) n
    row-join [] ys n p q = q
    row-join (x ∷ xs) ys n p q = (rw (next-append xs ys n) p.0, row-join xs ys n p.1 q)

  module _ (P Q R : A → Option A → Type 0) (f : (a : A) (n : Option A) → P a n → Q a n → R a n) where
    pub row-zip : (xs : List A) (n : Option A) → Row P xs n → Row Q xs n → Row R xs n
    row-zip [] n p q = tt
    row-zip (x ∷ xs) n p q = (f x (next xs n) p.0 q.0, row-zip xs n p.1 q.1)

  module _ (P Q : A → Option A → Type 0) (f : (a : A) (n : Option A) → P a n → Q a n) where
    pub row-map : (xs : List A) (n : Option A) → Row P xs n → Row Q xs n
    row-map [] n p = tt
    row-map (x ∷ xs) n p = (f x (next xs n) p.0, row-map xs n p.1)
