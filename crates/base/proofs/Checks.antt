-- What a list of checks answers. Assumes nothing.
use Rattle.base.specs.declared.Refusal.{Refusal}
use Prim.Native.Nat.{ℕ}
use mathlib.Core.Bool.{Bool, true, false}
use Rattle.std.specs.Prelude.{Option, None, Some, Result, Ok, Err, ⊤}
use mathlib.Core.Path.{◌≡◌, refl, sym, ap, ◌∙◌}
use mathlib.Core.List.{List, [], ◌∷◌, ◌++◌}
use mathlib.Core.Logic.{inl, inr, ⊎_elim}
use native.Mathlib.Omega.{arith}
use lib.Dec.{eqb}
use types.Run.{OneOf}
use borrow.Author.Tests.{eq-eqb, ne_eqb}
use Rattle.base.specs.Pick.{pick, among}
use Rattle.base.specs.Said.{gives, refuses, answered, refusal_code, refusal}
use Rattle.base.proofs.Readings.{undone-injective, from_said, from_option, refusal_of, number-back}
use Rattle.base.specs.Checks.{Check, checked, first-fail, answer, Holding, AllHold, FirstFail}

-- what an answer says determines it
pub answered-injective : {A : Type 0} (a b : Result A Refusal) → answered a ≡ answered b → a ≡ b
answered-injective {A = A} = undone-injective answered (from_said Ok (λ k. Err (refusal_of k))) back
  where
    back : (a : Result A Refusal) → from_said Ok (λ k. Err (refusal_of k)) (answered a) ≡ a
    back (Ok a) = refl
    back (Err r) = ap Err (number-back r)

pub refusal-injective : (a b : Result ⊤ Refusal) → refusal a ≡ refusal b → a ≡ b
refusal-injective = undone-injective refusal (from_option (λ k. Err (refusal_of k)) (Ok tt)) back
  where
    back : (a : Result ⊤ Refusal) → from_option (λ k. Err (refusal_of k)) (Ok tt) (refusal a) ≡ a
    back (Ok tt) = refl
    back (Err r) = ap Err (number-back r)

-- no check fails: all hold
pub none-fails : (cs : List Check) → first-fail cs ≡ None → AllHold cs
none-fails [] h = tt
none-fails (c ∷ cs) h = go (none-fails cs) c.holds refl h
  where
    go : (first-fail cs ≡ None → AllHold cs) → (b : Bool) → c.holds ≡ b → pick b (first-fail cs) (Some c.number) ≡ None → Holding c × AllHold cs
    go ih true q e = (q, ih e)
    go ih false q e = let w : ◌≡◌ {A = ℕ} 0 1 = cc in absurd (omega arith)

pub all_hold : (cs : List Check) → AllHold cs → first-fail cs ≡ None
all_hold [] h = refl
all_hold (c ∷ cs) h = rw h.0 (all_hold cs h.1)

-- checks in two lists hold, one after the other
pub hold-left : (cs ds : List Check) → AllHold (cs ++ ds) → AllHold cs
hold-left [] ds h = tt
hold-left (c ∷ cs) ds h = (h.0, hold-left cs ds h.1)

pub hold-right : (cs ds : List Check) → AllHold (cs ++ ds) → AllHold ds
hold-right [] ds h = h
hold-right (c ∷ cs) ds h = hold-right cs ds h.1

pub hold-both : (cs ds : List Check) → AllHold cs → AllHold ds → AllHold (cs ++ ds)
hold-both [] ds h k = k
hold-both (c ∷ cs) ds h k = (h.0, hold-both cs ds h.1 k)

-- a refusal's number is that of the first check that fails, and every earlier one holds
pub fails-first : (cs : List Check) (k : ℕ) → first-fail cs ≡ Some k → FirstFail cs k
fails-first [] k h = let w : ◌≡◌ {A = ℕ} 0 1 = cc in absurd (omega arith)
fails-first (c ∷ cs) k h = go (fails-first cs k) c.holds refl h
  where
    go : (first-fail cs ≡ Some k → FirstFail cs k) → (b : Bool) → c.holds ≡ b → pick b (first-fail cs) (Some c.number) ≡ Some k → FirstFail (c ∷ cs) k
    go ih false q e = record { before = []; check = c; behind = cs; parts = refl; holding = tt; fails = q; number = cc }
    go ih true q e =
        let f : FirstFail cs k = ih e in
        record {
          before = c ∷ f.before;
          check = f.check;
          behind = f.behind;
          parts = ap (◌∷◌ c) f.parts;
          holding = (q, f.holding);
          fails = f.fails;
          number = f.number;
        }

-- by cases on what the checks answer
abbrev pub on_fail : {A : Type 0} → Option ℕ → (ℕ → A) → A → A
on_fail None deny grant = grant
on_fail (Some k) deny grant = deny k

pub checked-fail : {A : Type 0} (cs : List Check) (deny : ℕ → A) (grant : A) → checked cs deny grant ≡ on_fail (first-fail cs) deny grant
checked-fail [] deny grant = refl
checked-fail (c ∷ cs) deny grant = go c.holds (checked-fail cs deny grant)
  where
    go : (b : Bool) → checked cs deny grant ≡ on_fail (first-fail cs) deny grant
        → pick b (checked cs deny grant) (deny c.number) ≡ on_fail (pick b (first-fail cs) (Some c.number)) deny grant
    go true ih = ih
    go false ih = refl

-- an answer that is a refusal, and one that is a value
said-fail : {A : Type 0} (o : Option ℕ) (a : A) (k : ℕ) → on_fail o refuses (gives a) ≡ refuses k → o ≡ Some k
said-fail None a k h = let w : ◌≡◌ {A = ℕ} 0 1 = cc in absurd (omega arith)
said-fail (Some j) a k h =
    let e : j ≡ k = cc in
    ap Some e

said-value : {A : Type 0} (o : Option ℕ) (a b : A) → on_fail o refuses (gives a) ≡ gives b → (o ≡ None) × (a ≡ b)
said-value None a b h = (refl, cc)
said-value (Some j) a b h = let w : ◌≡◌ {A = ℕ} 0 1 = cc in absurd (omega arith)

pub answer-refuses : {A : Type 0} (cs : List Check) (a : A) (k : ℕ) → answer cs a ≡ refuses k → first-fail cs ≡ Some k
answer-refuses cs a k h = said-fail (first-fail cs) a k (sym (checked-fail cs refuses (gives a)) ∙ h)

pub answer-gives : {A : Type 0} (cs : List Check) (a b : A) → answer cs a ≡ gives b → (first-fail cs ≡ None) × (a ≡ b)
answer-gives cs a b h = said-value (first-fail cs) a b (sym (checked-fail cs refuses (gives a)) ∙ h)

-- what the checks lead to, once it is known whether one fails
pub checked-some : {A : Type 0} (cs : List Check) (deny : ℕ → A) (grant : A) (k : ℕ) → first-fail cs ≡ Some k → checked cs deny grant ≡ deny k
checked-some cs deny grant k h = checked-fail cs deny grant ∙ rw h

pub checked-none : {A : Type 0} (cs : List Check) (deny : ℕ → A) (grant : A) → first-fail cs ≡ None → checked cs deny grant ≡ grant
checked-none cs deny grant h = checked-fail cs deny grant ∙ rw h

-- checks in two lists, one after the other
pub checked-append : {A : Type 0} (cs ds : List Check) (deny : ℕ → A) (grant : A) → checked (cs ++ ds) deny grant ≡ checked cs deny (checked ds deny grant)
checked-append [] ds deny grant = refl
checked-append (c ∷ cs) ds deny grant = rw (checked-append cs ds deny grant)

-- the first list fails, or leaves it to the second
pub append-fails : {A : Type 0} (cs ds : List Check) (k : ℕ) (deny : ℕ → A) (grant : A) → first-fail cs ≡ Some k → checked (cs ++ ds) deny grant ≡ deny k
append-fails cs ds k deny grant e =
    let r = checked ds deny grant in
    checked-append cs ds deny grant ∙ checked-fail cs deny r ∙ ap (λ o. on_fail o deny r) e

pub append-holds : {A : Type 0} (cs ds : List Check) (deny : ℕ → A) (grant : A) → AllHold cs → checked (cs ++ ds) deny grant ≡ checked ds deny grant
append-holds cs ds deny grant h =
    let r = checked ds deny grant in
    checked-append cs ds deny grant ∙ checked-fail cs deny r ∙ ap (λ o. on_fail o deny r) (all_hold cs h)

pub fail-left : (cs ds : List Check) (k : ℕ) → first-fail cs ≡ Some k → first-fail (cs ++ ds) ≡ Some k
fail-left cs ds k e = append-fails cs ds k Some None e

pub fail-right : (cs ds : List Check) → first-fail cs ≡ None → first-fail (cs ++ ds) ≡ first-fail ds
fail-right cs ds e = append-holds cs ds Some None (none-fails cs e)

-- a number that is one of a list of keys, and one that is none of them
later : (b : Bool) (c : Bool) → c ≡ true → pick b true c ≡ true
later true c e = refl
later false c e = e

pub among_in : (x : ℕ) (ks : List ℕ) → OneOf ks x → among x ks ≡ true
among_in x [] h = absurd h
among_in x (k ∷ []) h = simp (eq-eqb _ _ h)
among_in x (k ∷ l ∷ ks) h = ⊎_elim (λ e. simp (eq-eqb x k e)) (λ e. later (eqb x k) (among x (l ∷ ks)) (among_in x (l ∷ ks) e)) h

pub among-out : (x : ℕ) (ks : List ℕ) → (OneOf ks x → ⊥) → among x ks ≡ false
among-out x [] n = refl
among-out x (k ∷ []) n = simp (ne_eqb _ _ n)
among-out x (k ∷ l ∷ ks) n = simp (ne_eqb x k (λ e. n (inl e))) (among-out x (l ∷ ks) (λ e. n (inr e)))
