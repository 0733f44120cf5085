-- What the check says, and what follows for a good extract. Assumes nothing.
use mathlib.Core.Path.{◌≡◌, refl, sym, ap, ◌∙◌}
use mathlib.Core.List.{List, [], ◌∷◌}
use mathlib.Core.Bool.{Bool, true, false}
use Rattle.std.specs.Prelude.{Option, None, Some, Ok, Err}
use Prim.Native.Nat.{ℕ, zero, suc, ◌+◌, ◌*◌, ◌≤◌, ◌<◌}
use native.Mathlib.Omega.{arith}
use native.Mathlib.Nat.{add-zero, zero-add}
use lib.Dec.{leb, ltb}
use lib.ListN.{length, get_or}
use borrow.Author.Tests.{le-leb, lt-leb, lt-ltb, le-ltb, leb-true, ltb-true, eqb-true}
use Rattle.base.specs.Pick.{pick}
use Rattle.base.specs.Bytes.{Bytes}
use Rattle.base.specs.Said.{refusal_code, answered, gives, refuses}
use Rattle.base.specs.Checks.{Check, ◌!◌, checked, first-fail, AllHold}
use Rattle.base.proofs.Bytes.{byte_at}
use Rattle.base.proofs.Checks.{none-fails, all_hold, hold-left, hold-right, on_fail, checked-fail, checked-append, append-fails, append-holds}
use Rattle.extract.specs.Extract.{word, sector_size_of, disk_sectors, count, list_offset, record_offset, total, lba_at, lbas_from, lbas, ascending, all_below, lba_checks, extract_checks, look_checks, Good}
use Rattle.extract.specs.Rules.{size_ok, word_checks, most_records}
use Rattle.extract.specs.declared.Extract.{Extract}
use Rattle.base.specs.declared.Refusal.{Refusal}
use Rattle.extract.specs.Answers.{header_of, check_says}

-- the header's rules and the LBAs' rules of an extract
abbrev pub of_header : List ℕ → List Check
of_header x = word_checks (length x) (sector_size_of x) (count x) (list_offset x) (record_offset x) (total x)

abbrev pub of_lbas : List ℕ → List Check
of_lbas x = lba_checks (disk_sectors x) (lbas x)

pub says-short : (x : List ℕ) → length x < 24 → refuses 1 ≡ check_says x
unfolding check_says extract_checks
says-short x h = simp (lt-leb 24 (length x) h)

-- the answer by what the two groups say
says-parts : (x : List ℕ) → 24 ≤ length x → check_says x ≡ on_fail (first-fail (of_header x)) refuses (on_fail (first-fail (of_lbas x)) refuses (gives (header_of x)))
unfolding check_says extract_checks
says-parts x h =
    let e : leb 24 (length x) ≡ true = le-leb 24 (length x) h in
    let a = checked-append (of_header x) (of_lbas x) refuses (gives (header_of x)) in
    let b = checked-fail (of_header x) refuses (checked (of_lbas x) refuses (gives (header_of x))) in
    let c = checked-fail (of_lbas x) refuses (gives (header_of x)) in
    rw e (a ∙ b ∙ ap (on_fail (first-fail (of_header x)) refuses) c)

pub says-header : (x : List ℕ) (k : ℕ) → 24 ≤ length x → first-fail (of_header x) ≡ Some k → refuses k ≡ check_says x
says-header x k h e = sym (says-parts x h ∙ ap (λ o. on_fail o refuses (on_fail (first-fail (of_lbas x)) refuses (gives (header_of x)))) e)

pub says-lbas : (x : List ℕ) (k : ℕ) → 24 ≤ length x → first-fail (of_header x) ≡ None → first-fail (of_lbas x) ≡ Some k → refuses k ≡ check_says x
says-lbas x k h e f =
    sym
    (says-parts x h ∙ ap (λ o. on_fail o refuses (on_fail (first-fail (of_lbas x)) refuses (gives (header_of x)))) e
    ∙ ap (λ o. on_fail o refuses (gives (header_of x))) f)

pub says-good : (x : List ℕ) → 24 ≤ length x → first-fail (of_header x) ≡ None → first-fail (of_lbas x) ≡ None → gives (header_of x) ≡ check_says x
says-good x h e f =
    sym
    (says-parts x h ∙ ap (λ o. on_fail o refuses (on_fail (first-fail (of_lbas x)) refuses (gives (header_of x)))) e
    ∙ ap (λ o. on_fail o refuses (gives (header_of x))) f)

-- rules of words that were read
pub header-words : (x : List ℕ) (a n l r t : ℕ) → a ≡ sector_size_of x → n ≡ count x → l ≡ list_offset x → r ≡ record_offset x → t ≡ total x
    → first-fail (word_checks (length x) a n l r t) ≡ first-fail (of_header x)
header-words x a n l r t e f g h i = rw (e, f, g, h, i)

-- a good header has few records, which the extract holds
pub header-room : (x : List ℕ) → first-fail (of_header x) ≡ None → (count x ≤ most_records) × (length x ≡ 24 + count x * 516)
header-room x e =
    let k = none-fails (of_header x) e in
    (leb-true _ _ k.1.0, sym (eqb-true _ _ k.1.1.1.1.1.0) ∙ eqb-true _ _ k.1.1.1.1.0)

-- a good answer, and what it says of the extract
pub good-told : (x : List ℕ) (e : Extract) → answered (Ok e) ≡ check_says x → Bytes x → Good x × (e ≡ header_of x)
unfolding check_says
good-told x e h b =
    let f = sym (checked-fail (extract_checks x) refuses (gives (header_of x))) in
    go (first-fail (extract_checks x)) refl (h ∙ sym f)
  where
    go : (o : Option ℕ) → first-fail (extract_checks x) ≡ o → gives e ≡ on_fail o refuses (gives (header_of x)) → Good x × (e ≡ header_of x)
    go None q r = (record { rules = none-fails (extract_checks x) q; bytes = b }, cc)
    go (Some k) q r = let w : ◌≡◌ {A = ℕ} 0 1 = cc in absurd (omega arith)

-- a refusal, and what it says
pub bad-told : (x : List ℕ) (r : Refusal) → answered (Err r) ≡ check_says x → first-fail (extract_checks x) ≡ Some (refusal_code r)
unfolding check_says
bad-told x r h =
    let f = sym (checked-fail (extract_checks x) refuses (gives (header_of x))) in
    go (first-fail (extract_checks x)) refl (h ∙ sym f)
  where
    go : (o : Option ℕ) → first-fail (extract_checks x) ≡ o → refuses (refusal_code r) ≡ on_fail o refuses (gives (header_of x)) → o ≡ Some (refusal_code r)
    go None q e = let w : ◌≡◌ {A = ℕ} 0 1 = cc in absurd (omega arith)
    go (Some k) q e = let w : refusal_code r ≡ k = cc in ap Some (sym w)

-- a lookup by what the check said
module _ {A : Type 0} (x : List ℕ) (a : ℕ) (deny : ℕ → A) (grant : A) where
  pub look-bad : (k : ℕ) → first-fail (extract_checks x) ≡ Some k → checked (look_checks x a) deny grant ≡ deny k
  unfolding look_checks
  look-bad k e = append-fails (extract_checks x) ((2 ! ltb a (disk_sectors x)) ∷ []) k deny grant e

  pub look-good : Good x → a < disk_sectors x → checked (look_checks x a) deny grant ≡ grant
  unfolding look_checks
  look-good g h = append-holds (extract_checks x) ((2 ! ltb a (disk_sectors x)) ∷ []) deny grant g.rules ∙ rw (lt-ltb a (disk_sectors x) h)

  pub look-past : Good x → disk_sectors x ≤ a → checked (look_checks x a) deny grant ≡ deny 2
  unfolding look_checks
  look-past g h = append-holds (extract_checks x) ((2 ! ltb a (disk_sectors x)) ∷ []) deny grant g.rules ∙ rw (le-ltb a (disk_sectors x) h)

-- the rules of a good extract, one by one
good-header : (x : List ℕ) → Good x → AllHold (of_header x)
unfolding extract_checks
good-header x g = hold-left (of_header x) (of_lbas x) g.rules.1

good-lbas : (x : List ℕ) → Good x → AllHold (of_lbas x)
unfolding extract_checks
good-lbas x g = hold-right (of_header x) (of_lbas x) g.rules.1

pub good-few : (x : List ℕ) → Good x → count x ≤ most_records
good-few x g = (header-room x (all_hold (of_header x) (good-header x g))).0

pub good-long : (x : List ℕ) → Good x → length x ≡ 24 + count x * 516
good-long x g = (header-room x (all_hold (of_header x) (good-header x g))).1

pub good-size : (x : List ℕ) → Good x → size_ok (sector_size_of x) ≡ true
good-size x g = (good-header x g).0

pub good-offsets : (x : List ℕ) → Good x → (list_offset x ≡ 24) × (record_offset x ≡ 24 + count x * 4) × (total x ≡ 24 + count x * 516)
good-offsets x g =
    let k = good-header x g in
    (eqb-true _ _ k.1.1.0, eqb-true _ _ k.1.1.1.0, eqb-true _ _ k.1.1.1.1.0)

pub good-ascending : (x : List ℕ) → Good x → ascending (lbas x) ≡ true
good-ascending x g = (good-lbas x g).0

pub good-below : (x : List ℕ) → Good x → all_below (disk_sectors x) (lbas x) ≡ true
good-below x g = (good-lbas x g).1.0

-- words are below 2 ^ 32
pub word_below : (x : List ℕ) (at : ℕ) → Bytes x → word x at < 4294967296
unfolding word
word_below x at b =
    omega (arith, byte_at x b at, byte_at x b (at + 1), byte_at x b (at + 2), byte_at x b (at + 3))

-- LBAs by their number
pub length-lbas : (x : List ℕ) (i k : ℕ) → length (lbas_from x i k) ≡ k
unfolding lbas_from
length-lbas x i zero = refl
length-lbas x i (suc k) = ap suc (length-lbas x (i + 1) k)

pub lbas-at : (x : List ℕ) (i k j : ℕ) → j < k → get_or (lbas_from x i k) j 0 ≡ lba_at x (i + j)
unfolding lbas_from
lbas-at x i zero j h = absurd (omega arith)
lbas-at x i (suc k) zero h = rw add-zero
lbas-at x i (suc k) (suc j) h =
    let e : i + 1 + j ≡ i + suc j = omega arith in
    lbas-at x (i + 1) k j (omega arith) ∙ rw e

below_at : (d : ℕ) (ls : List ℕ) → all_below d ls ≡ true → (j : ℕ) → j < length ls → get_or ls j 0 < d
unfolding all_below
below_at d [] e j h = absurd (omega arith)
below_at d (a ∷ ls) e j h = go (below_at d ls) (ltb a d) refl e j h
  where
    go : (all_below d ls ≡ true → (j : ℕ) → j < length ls → get_or ls j 0 < d) → (t : Bool) → ltb a d ≡ t → pick t (all_below d ls) false ≡ true
        → (j : ℕ) → j < suc (length ls) → get_or (a ∷ ls) j 0 < d
    go ih false q r j l = let w : ◌≡◌ {A = ℕ} 0 1 = cc in absurd (omega arith)
    go ih true q r zero l = ltb-true a d q
    go ih true q r (suc j) l = ih r j (omega arith)

first_two : (a b : ℕ) (ls : List ℕ) → ascending (a ∷ b ∷ ls) ≡ true → (a < b) × (ascending (b ∷ ls) ≡ true)
unfolding ascending
first_two a b ls e = go (ltb a b) refl e
  where
    go : (t : Bool) → ltb a b ≡ t → pick t (ascending (b ∷ ls)) false ≡ true → (a < b) × (ascending (b ∷ ls) ≡ true)
    go true q r = (ltb-true a b q, r)
    go false q r = let w : ◌≡◌ {A = ℕ} 0 1 = cc in absurd (omega arith)

pub ascending-head : (a : ℕ) (ls : List ℕ) → ascending (a ∷ ls) ≡ true → (j : ℕ) → j < length ls → a < get_or ls j 0
ascending-head a [] e j h = absurd (omega arith)
ascending-head a (b ∷ ls) e zero h = (first_two a b ls e).0
ascending-head a (b ∷ ls) e (suc j) h =
    let p = first_two a b ls e in
    omega (arith, p.0, ascending-head b ls p.1 j (omega arith))

pub ascending-tail : (a : ℕ) (ls : List ℕ) → ascending (a ∷ ls) ≡ true → ascending ls ≡ true
unfolding ascending
ascending-tail a [] e = refl
ascending-tail a (b ∷ ls) e = (first_two a b ls e).1

ascending-at : (ls : List ℕ) → ascending ls ≡ true → (i j : ℕ) → i < j → j < length ls → get_or ls i 0 < get_or ls j 0
ascending-at [] e i j h l = absurd (omega arith)
ascending-at (a ∷ ls) e i zero h l = absurd (omega arith)
ascending-at (a ∷ ls) e zero (suc j) h l = ascending-head a ls e j (omega arith)
ascending-at (a ∷ ls) e (suc i) (suc j) h l = ascending-at ls (ascending-tail a ls e) i j (omega arith) (omega arith)

-- the LBAs of a good extract ascend, below D
pub lba-less : (x : List ℕ) → Good x → (i j : ℕ) → i < j → j < count x → lba_at x i < lba_at x j
lba-less x g i j h l =
    let p = ascending-at (lbas x) (good-ascending x g) i j h (omega (arith, length-lbas x 0 (count x))) in
    rw (lbas-at x 0 (count x) i (omega arith), lbas-at x 0 (count x) j l, zero-add i, zero-add j) at p

pub lba-below : (x : List ℕ) → Good x → (i : ℕ) → i < count x → lba_at x i < disk_sectors x
lba-below x g i h =
    let p = below_at (disk_sectors x) (lbas x) (good-below x g) i (omega (arith, length-lbas x 0 (count x))) in
    rw (lbas-at x 0 (count x) i h, zero-add) at p
