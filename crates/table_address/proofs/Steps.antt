-- Steps of update_chs. Assumes nothing.
use mathlib.Core.Path.{◌≡◌, refl, ap, sym, ◌∙◌}
use mathlib.Core.Bool.{Bool, true, false}
use Rattle.std.specs.Prelude.{Some, Option}
use mathlib.Core.List.{List, [], ◌∷◌}
use Prim.Native.Nat.{ℕ, ◌+◌, ◌-◌}
use native.Mathlib.Omega.{arith}
use native.Mathlib.Nat.{pos_of_ne-zero}
use lib.Dec.{ltb}
use borrow.Author.Tests.{lt-ltb, le-ltb}
use Rattle.base.specs.Pick.{pick}
use Rattle.base.specs.Said.{Said, gives, refuses, and_then, failure, value_or}
use Rattle.base.specs.Checks.{Check, checked, answer, first-fail}
use Rattle.record_chs.specs.declared.CHS.{CHS}
use Rattle.record_chs.specs.Chs.{exact}
use Rattle.table.specs.declared.LogicalPartition.{LogicalPartition}
use Rattle.table_address.specs.declared.Geometry.{Geometry}
use Rattle.table_address.specs.Address.{address_checks, last_checks, link_checks, address_in, link_address, addressed, update_checks, update_chs, with_addresses}
use Rattle.table_address.specs.Answers.{four_addresses}
use Rattle.table_address.proofs.Laws.{update-steps}

-- a value that checks give, and what goes on with it
pub and-answer : {A B : Type 0} (cs : List Check) (a : A) (f : A → Said B) → and_then (answer cs a) f ≡ checked cs refuses (f a)
and-answer [] a f = refl
and-answer (c ∷ cs) a f = go c.holds (and-answer cs a f)
  where
    go : (b : Bool) → and_then (answer cs a) f ≡ checked cs refuses (f a)
        → and_then (pick b (answer cs a) (refuses c.number)) f ≡ pick b (checked cs refuses (f a)) (refuses c.number)
    go true ih = ih
    go false ih = refl

-- update_chs is its four addresses, one after the other
module _ (g : Geometry) (l : LogicalPartition) where
  abbrev start : ℕ
  start = l.partition.starting_lba

  abbrev size : ℕ
  size = l.partition.sectors

  abbrev place : ℕ
  place = l.absolute_ebr_lba.0

  abbrev first : Said CHS
  first = exact start g.cylinders g.heads g.sectors

  abbrev last : Said CHS
  last = answer (last_checks g start size) (address_in g (start + size - 1))

  abbrev link : Said CHS
  link = exact place g.cylinders g.heads g.sectors

  abbrev end : Said (Option CHS)
  end = answer (link_checks g place l.ebr_sectors) (link_address g place l.ebr_sectors)

  abbrev with : CHS → CHS → CHS → Option CHS → LogicalPartition
  with = with_addresses l

  pub update-settled : update_chs g l ≡ four_addresses l first last link end
  unfolding addressed
  update-settled =
      update-steps g l
      ∙ sym
      (and-answer (address_checks g start) (address_in g start) (λ a. and_then last (λ b. and_then link (λ c. and_then end (λ d. gives (with a b c d)))))
      ∙ ap (checked (address_checks g start) refuses)
      (and-answer (last_checks g start size) (address_in g (start + size - 1)) (λ b. and_then link (λ c. and_then end (λ d. gives (with (address_in g start) b c d))))
      ∙ ap (checked (last_checks g start size) refuses)
      (and-answer (address_checks g place) (address_in g place) (λ c. and_then end (λ d. gives (with (address_in g start) (address_in g (start + size - 1)) c d)))
      ∙ ap (checked (address_checks g place) refuses)
      (and-answer
      (link_checks g place l.ebr_sectors)
      (link_address g place l.ebr_sectors)
      (λ d. gives (with (address_in g start) (address_in g (start + size - 1)) (address_in g place) d))))))

-- a test against 0
pub is_zero : (n : ℕ) → n ≡ 0 → ltb 0 n ≡ false
is_zero n e = le-ltb 0 n (omega arith)

pub not-zero : (n : ℕ) → (n ≡ 0 → ⊥) → ltb 0 n ≡ true
not-zero n e = lt-ltb 0 n (pos_of_ne-zero e)

-- what update_chs says
pub update-failure : (g : Geometry) (l : LogicalPartition) → failure (update_chs g l) ≡ first-fail (update_checks g l)
unfolding update_chs
update-failure g l = failed (update_checks g l) (addressed g l)
  where
    failed : {A : Type 0} (cs : List Check) (a : A) → failure (answer cs a) ≡ first-fail cs
    failed [] a = refl
    failed (c ∷ cs) a = go c.holds (failed cs a)
      where
        go : (b : Bool) → failure (answer cs a) ≡ first-fail cs → failure (pick b (answer cs a) (refuses c.number)) ≡ pick b (first-fail cs) (Some c.number)
        go true ih = ih
        go false ih = refl

pub update-value : (g : Geometry) (l : LogicalPartition) → value_or l (update_chs g l) ≡ checked (update_checks g l) (λ _. l) (addressed g l)
unfolding update_chs
update-value g l = valued (update_checks g l) l (addressed g l)
  where
    valued : {A : Type 0} (cs : List Check) (o a : A) → value_or o (answer cs a) ≡ checked cs (λ _. o) a
    valued [] o a = refl
    valued (c ∷ cs) o a = go c.holds (valued cs o a)
      where
        go : (b : Bool) → value_or o (answer cs a) ≡ checked cs (λ _. o) a → value_or o (pick b (answer cs a) (refuses c.number)) ≡ pick b (checked cs (λ _. o) a) o
        go true ih = ih
        go false ih = refl
