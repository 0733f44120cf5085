-- Refusals in order, as data: of several, the first in the list that fails is answered. Assumes nothing.
use Rattle.std.specs.Prelude.{ℕ, Bool, true, false, ◌≡◌, List, [], ◌∷◌, ◌++◌, eqb, leb, length}
use Rattle.std.specs.Prelude.{Option, None, Some}
use Rattle.base.specs.Pick.{pick}
use Rattle.base.specs.Said.{Said, gives, refuses}

-- a refusal's number, and the test that must hold
pub record Check : Type 0 where
  pub number : ℕ
  pub holds : Bool

infix 20 ◌!◌
abbrev pub ◌!◌ : ℕ → Bool → Check
n ! b = record { number = n; holds = b }

-- what the checks lead to: `deny` of the first one's number that fails, `grant` if all hold (rule G3)
abbrev pub checked : {A : Type 0} → List Check → (ℕ → A) → A → A
checked [] deny grant = grant
checked (c ∷ cs) deny grant = pick c.holds (checked cs deny grant) (deny c.number)

-- the number of the first check that fails (rule G1)
abbrev pub first-fail : List Check → Option ℕ
first-fail cs = checked cs Some None

-- the value if all checks hold, else the first one's number that fails
abbrev pub answer : {A : Type 0} → List Check → A → Said A
answer cs a = checked cs refuses (gives a)

-- a lent record is 512 bytes; one is written to 512 lent bytes or more
abbrev pub record_check : List ℕ → Check
record_check r = 1 ! eqb (length r) 512

abbrev pub record_room : ℕ → Check
record_room room = 19 ! leb 512 room

abbrev pub Holding : Check → Type 0
Holding c = c.holds ≡ true

abbrev pub AllHold : List Check → Type 0
AllHold [] = Unit {0}
AllHold (c ∷ cs) = Holding c × AllHold cs

-- `k` is the number of the first check that fails, and every earlier one holds
pub record FirstFail (cs : List Check) (k : ℕ) : Type 0 where
  pub before : List Check
  pub check : Check
  pub behind : List Check
  pub parts : cs ≡ before ++ check ∷ behind
  pub holding : AllHold before
  pub fails : check.holds ≡ false
  pub number : check.number ≡ k
