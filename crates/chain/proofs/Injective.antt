-- What an answer says determines it; of what is met at a sector, with the record that it stands in. Assumes nothing.
use Rattle.table.specs.declared.DiskLba.{DiskLba}
use Rattle.table.specs.declared.LinkLba.{LinkLba}
use Rattle.base.specs.declared.Refusal.{Refusal}
use mathlib.Core.Path.{◌≡◌, refl, sym, ◌∙◌, ap}
use mathlib.Core.List.{List}
use Rattle.std.specs.Prelude.{Option, Some, None, Result, Ok, Err}
use Prim.Native.Nat.{ℕ}
use Rattle.base.specs.Said.{Said}
use Rattle.base.proofs.Readings.{undone-injective, undone-injective-on, from_said, from_option, refusal_of, number-back}
use Rattle.record_ebr.specs.declared.EBRHeader.{EBRHeader}
use Rattle.extract.specs.Extract.{Good}
use Rattle.extract.proofs.Halves.{lba-unique}
use Rattle.chain.specs.declared.Met.{Met}
use Rattle.chain.specs.declared.Met.TheVariants.{Refused, Absent, Ebr}
use Rattle.chain.specs.Walk.{reached_said, follows_said, met_said, lack_said, HeadAt, MetAt}

pub reached-injective : (a b : Option DiskLba) → reached_said a ≡ reached_said b → a ≡ b
reached-injective = undone-injective reached_said (from_option (λ n. Some (record { 0 = n })) None) back
  where
    back : (a : Option DiskLba) → from_option (λ n. Some (record { 0 = n })) None (reached_said a) ≡ a
    back None = refl
    back (Some p) = refl

pub follows-injective : (a b : Result (Option LinkLba) Refusal) → follows_said a ≡ follows_said b → a ≡ b
follows-injective = undone-injective follows_said (from_said (from_option (λ n. Ok (Some (record { 0 = n }))) (Ok None)) (λ k. Err (refusal_of k))) back
  where
    back : (a : Result (Option LinkLba) Refusal) → from_said (from_option (λ n. Ok (Some (record { 0 = n }))) (Ok None)) (λ k. Err (refusal_of k)) (follows_said a) ≡ a
    back (Ok None) = refl
    back (Ok (Some r)) = refl
    back (Err r) = ap Err (number-back r)

-- both that is said of what is met
record Told : Type 0 where
  ebr : Said EBRHeader
  lack : Option ℕ

abbrev told : List ℕ → Met → Told
told x m = record { ebr = met_said x m; lack = lack_said m }

told-both : (x : List ℕ) (m n : Met) → met_said x m ≡ met_said x n → lack_said m ≡ lack_said n → told x m ≡ told x n
told-both x m n e f = rw (← e, ← f)

-- the answer that stands in record number i at sector a
abbrev met_from : ℕ → ℕ → Told → Met
met_from i a t =
    from_said
    (λ h. Ebr (record { number = i; at = record { 0 = a }; start = h.partition_1.starting_lba; link = record { 0 = h.partition_2.starting_lba } }))
    (λ k. from_option (λ b. Absent (record { 0 = b })) (Refused (refusal_of k)) t.lack)
    t.ebr

-- it names record number i at sector a, if one
abbrev Names : List ℕ → ℕ → ℕ → Met → Type 0
Names x i a (Refused r) = Unit {0}
Names x i a (Absent b) = Unit {0}
Names x i a (Ebr h) = (i ≡ h.number) × HeadAt x a h

named-injective : (x : List ℕ) (i a : ℕ) (m n : Met) → Names x i a m → Names x i a n → told x m ≡ told x n → m ≡ n
named-injective x i a = undone-injective-on (Names x i a) (told x) (met_from i a) back
  where
    back : (m : Met) → Names x i a m → met_from i a (told x m) ≡ m
    back (Refused r) e = ap Refused (number-back r)
    back (Absent b) e = refl
    back (Ebr h) e = rw (e.0, ← e.1.at, ← e.1.start, ← e.1.link)

pub met-injective : (x : List ℕ) → Good x → (a : ℕ) (m n : Met) → MetAt x a m → MetAt x a n → met_said x m ≡ met_said x n → lack_said m ≡ lack_said n → m ≡ n
met-injective x g a (Refused r) (Refused s) p q e f = named-injective x 0 a (Refused r) (Refused s) tt tt (told-both x (Refused r) (Refused s) e f)
met-injective x g a (Refused r) (Absent c) p q e f = named-injective x 0 a (Refused r) (Absent c) tt tt (told-both x (Refused r) (Absent c) e f)
met-injective x g a (Refused r) (Ebr u) p q e f = named-injective x u.number a (Refused r) (Ebr u) tt (refl, q) (told-both x (Refused r) (Ebr u) e f)
met-injective x g a (Absent b) (Refused s) p q e f = named-injective x 0 a (Absent b) (Refused s) tt tt (told-both x (Absent b) (Refused s) e f)
met-injective x g a (Absent b) (Absent c) p q e f = named-injective x 0 a (Absent b) (Absent c) tt tt (told-both x (Absent b) (Absent c) e f)
met-injective x g a (Absent b) (Ebr u) p q e f = named-injective x u.number a (Absent b) (Ebr u) tt (refl, q) (told-both x (Absent b) (Ebr u) e f)
met-injective x g a (Ebr h) (Refused s) p q e f = named-injective x h.number a (Ebr h) (Refused s) (refl, p) tt (told-both x (Ebr h) (Refused s) e f)
met-injective x g a (Ebr h) (Absent c) p q e f = named-injective x h.number a (Ebr h) (Absent c) (refl, p) tt (told-both x (Ebr h) (Absent c) e f)
met-injective x g a (Ebr h) (Ebr u) p q e f =
    named-injective x h.number a (Ebr h) (Ebr u) (refl, p) (lba-unique x g h.number u.number p.inside q.inside (p.listed ∙ sym q.listed), q) (told-both x (Ebr h) (Ebr u) e f)
