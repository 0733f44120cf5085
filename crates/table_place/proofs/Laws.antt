-- Laws of places and sizes: the steps of the searches over runs. Assumes nothing.
use mathlib.Core.Path.{◌≡◌, refl, sym, ap, ◌∙◌}
use mathlib.Core.List.{List, [], ◌∷◌}
use mathlib.Core.Bool.{Bool, true, false}
use Rattle.std.specs.Prelude.{Option, None, Some, Result, Ok, Err, IfOk}
use Prim.Native.Nat.{ℕ, ◌+◌, ◌*◌, ◌/◌, ◌≤◌, ◌<◌, max}
use native.Mathlib.Numerals.{add-one}
use native.Mathlib.Omega.{arith}
use native.Mathlib.Decide.{dec_lt}
use lib.Dec.{ltb, leb}
use lib.ListN.{length, take, drop, get_or, drop_of_length-le}
use lib.Seq.{drop-cons, length-take-le}
use borrow.Author.Tests.{lt-ltb, le-ltb, lt-leb, le-leb, leb-true, leb-false, eq-eqb, ne_eqb}
use Rattle.base.specs.Pick.{pick}
use Rattle.base.specs.declared.Refusal.{Refusal}
use Rattle.base.specs.Said.{Said, gives, refuses, and_then}
use Rattle.table_free.specs.declared.Run.{Run}
use Rattle.table_free.specs.declared.Runs.{Runs}
use Rattle.record_entry.specs.declared.MBRPartitionEntry.{MBRPartitionEntry}
use Rattle.table.specs.declared.MBR.{MBR}
use Rattle.table.specs.Table.{most}
use Rattle.table_lookup.specs.Numbers.{entry_of, get_says}
use Rattle.table_free.proofs.Laws.{free-six}
use Rattle.table_free.specs.Free.{run, u32, runs_in, free_said, free, Ended, Usable, most_runs}
use Rattle.table_place.specs.declared.Rule.{Rule}
use Rattle.table_place.specs.declared.Rule.TheVariants.{First, Last, Smallest}
use Rattle.table_place.specs.Place.{roomy, last_run, smaller, smallest_of, chosen, preferred, largest, or_sixteen, length_at, grown, grown_by, growth, maximum_for}

-- the best so far, and what each rule takes
first-stays : (b : Run) (rs : List Run) → preferred First (Some b) rs ≡ Some b
first-stays b [] = refl
first-stays b (r ∷ rs) = first-stays b rs

last_goes : (b : Run) (rs : List Run) → preferred Last (Some b) rs ≡ last_run (b ∷ rs)
last_goes b [] = refl
last_goes b (r ∷ rs) = last_goes r rs

smaller-two : (b r : Run) (o : Option Run) → smaller (pick (ltb r.length b.length) r b) o ≡ smaller b (Some (smaller r o))
smaller-two b r None =
    elim (dec_lt r.length b.length) [
      | yes h ↦ rw (lt-ltb r.length b.length h, lt-leb b.length r.length h)
      | no h ↦ rw (le-ltb r.length b.length (omega arith), le-leb b.length r.length (omega arith))
    ]
smaller-two b r (Some s) =
    elim (dec_lt r.length b.length) [
      | yes h ↦ elim (dec_lt s.length r.length) [
        | yes k ↦ rw (lt-ltb r.length b.length h, lt-leb r.length s.length k, lt-leb b.length s.length (omega arith))
        | no k ↦ rw (lt-ltb r.length b.length h, le-leb r.length s.length (omega arith), lt-leb b.length r.length h)
      ]
      | no h ↦ elim (dec_lt s.length r.length) [
        | yes k ↦ rw (le-ltb r.length b.length (omega arith), lt-leb r.length s.length k)
        | no k ↦ rw (le-ltb r.length b.length (omega arith), le-leb r.length s.length (omega arith), le-leb b.length r.length (omega arith), le-leb b.length s.length (omega arith))
      ]
    ]

smallest-goes : (b : Run) (rs : List Run) → preferred Smallest (Some b) rs ≡ Some (smaller b (smallest_of rs))
smallest-goes b [] = refl
smallest-goes b (r ∷ rs) = smallest-goes (pick (ltb r.length b.length) r b) rs ∙ ap Some (smaller-two b r (smallest_of rs))

pub onward-chosen : (rule : Rule) (rs : List Run) → preferred rule None rs ≡ chosen rule rs
onward-chosen First [] = refl
onward-chosen First (r ∷ rs) = first-stays r rs
onward-chosen Last [] = refl
onward-chosen Last (r ∷ rs) = last_goes r rs
onward-chosen Smallest [] = refl
onward-chosen Smallest (r ∷ rs) = smallest-goes r rs

-- the runs from index i on
run_at : (rs : List Run) (i : ℕ) → i < length rs → drop i rs ≡ get_or rs i (run 0 0) ∷ drop (i + 1) rs
run_at rs i h = drop-cons rs i (run 0 0) h ∙ ap (λ (j : ℕ). get_or rs i (run 0 0) ∷ drop j rs) (sym (add-one i))

onward-cons : (rule : Rule) (size : ℕ) (o : Option Run) (r : Run) (rs : List Run) → preferred rule o (roomy size (r ∷ rs)) ≡ preferred rule (preferred rule o (roomy size (r ∷ []))) (roomy size rs)
unfolding roomy
onward-cons rule size o r rs = go (leb size r.length) o
  where
    go : (b : Bool) (p : Option Run) → preferred rule p (pick b (r ∷ roomy size rs) (roomy size rs)) ≡ preferred rule (preferred rule p (pick b (r ∷ []) [])) (roomy size rs)
    go true None = refl
    go true (Some q) = refl
    go false p = refl

-- one turn of the searches over runs
module _ (rs : List Run) (i : ℕ) where
  pub spot_on : i < length rs → (rule : Rule) (size : ℕ) (o p : Option Run) → p ≡ preferred rule o (roomy size (get_or rs i (run 0 0) ∷ []))
      → preferred rule o (roomy size (drop i rs)) ≡ preferred rule p (roomy size (drop (i + 1) rs))
  spot_on h rule size o p e =
      ap (λ (l : List Run). preferred rule o (roomy size l)) (run_at rs i h) ∙ onward-cons rule size o (get_or rs i (run 0 0)) (drop (i + 1) rs)
      ∙ ap (λ (q : Option Run). preferred rule q (roomy size (drop (i + 1) rs))) (sym e)

  pub spot-end : length rs ≤ i → (rule : Rule) (size : ℕ) (o : Option Run) → preferred rule o (roomy size (drop i rs)) ≡ o
  unfolding roomy
  spot-end h rule size o = rw (drop_of_length-le rs h)

-- the last run that is long enough is long enough, and ends by the last number of 32 bits
abbrev Fit : ℕ → Run → Type 0
Fit size r = (size ≤ r.length) × (r.start + r.length < u32)

abbrev AllFit : ℕ → List Run → Type 0
AllFit size [] = Unit {0}
AllFit size (r ∷ rs) = Fit size r × AllFit size rs

roomy-fit : (size : ℕ) (rs : List Run) → Ended rs → AllFit size (roomy size rs)
unfolding roomy
roomy-fit size [] e = tt
roomy-fit size (r ∷ rs) e = go (leb size r.length) refl (roomy-fit size rs e.1)
  where
    go : (b : Bool) → leb size r.length ≡ b → AllFit size (roomy size rs) → AllFit size (pick b (r ∷ roomy size rs) (roomy size rs))
    go true q ih = ((leb-true size r.length q, e.0), ih)
    go false q ih = ih

last-in : (size : ℕ) (rs : List Run) (r : Run) → AllFit size rs → last_run rs ≡ Some r → Fit size r
last-in size [] r a e = let w : ◌≡◌ {A = ℕ} 0 1 = cc in absurd (omega arith)
last-in size (s ∷ []) r a e =
    let z : s ≡ r = cc in
    rw (← z) a.0
last-in size (s ∷ u ∷ rs) r a e = last-in size (u ∷ rs) r a.1 e

pub last_fits : (size : ℕ) (rs : List Run) (s : Option Run) (r : Run) → Ended rs → s ≡ chosen Last (roomy size rs) → s ≡ Some r → (size ≤ r.length) × (r.start + r.length < u32)
last_fits size rs s r h e z = last-in size (roomy size rs) r (roomy-fit size rs h) (sym e ∙ z)

-- what sizes ask of an answer
pub few-usable : (r : Result Runs Refusal) (align : ℕ) → IfOk r (λ x. x.count ≤ most_runs) → Usable align (free_said r) → IfOk r (λ x. (x.count ≤ most_runs) × (0 < align))
few-usable (Ok x) align f u = (f, u.0)
few-usable (Err k) align f u = tt

-- the largest length
module _ (rs : List Run) (i align most : ℕ) where
  pub largest-on : i < length rs → max most (largest align (drop i rs)) ≡ max (max most ((get_or rs i (run 0 0)).length / align * align)) (largest align (drop (i + 1) rs))
  unfolding largest
  largest-on h = rw (run_at rs i h) (omega arith)

  pub largest-end : length rs ≤ i → max most (largest align (drop i rs)) ≡ most
  unfolding largest
  largest-end h = rw (drop_of_length-le rs h) (omega arith)

pub size_none : (x : Runs) (align : ℕ) → x.count ≡ 0 → refuses 16 ≡ or_sixteen align (runs_in x)
size_none x align e = ap (λ (n : ℕ). or_sixteen align (take n x.at)) (sym e)

some-run : (align : ℕ) (rs : List Run) → (length rs ≡ 0 → ⊥) → gives (largest align rs) ≡ or_sixteen align rs
some-run align [] h = absurd (h refl)
some-run align (r ∷ rs) h = refl

pub size-some : (x : Runs) (align n : ℕ) → x.count ≤ length x.at → (x.count ≡ 0 → ⊥) → n ≡ largest align (runs_in x) → gives n ≡ or_sixteen align (runs_in x)
size-some x align n k h e = ap gives e ∙ some-run align (runs_in x) (λ (z : length (runs_in x) ≡ 0). h (omega (arith, length-take-le x.count x.at k)))

-- the first run that starts at a place
module _ (rs : List Run) (i p : ℕ) where
  pub length-hit : i < length rs → (get_or rs i (run 0 0)).start ≡ p → length_at p (drop i rs) ≡ (get_or rs i (run 0 0)).length
  unfolding length_at
  length-hit h e = rw (run_at rs i h, eq-eqb (get_or rs i (run 0 0)).start p e)

  pub length-miss : i < length rs → ((get_or rs i (run 0 0)).start ≡ p → ⊥) → length_at p (drop i rs) ≡ length_at p (drop (i + 1) rs)
  unfolding length_at
  length-miss h e = rw (run_at rs i h, ne_eqb (get_or rs i (run 0 0)).start p e)

  pub length_none : length rs ≤ i → length_at p (drop i rs) ≡ 0
  unfolding length_at
  length_none h = rw (drop_of_length-le rs h)

-- growing, once it is known whether there is a run
pub grown-none : (e : MBRPartitionEntry) (x : Runs) → x.count ≡ 0 → gives e.sectors ≡ grown e (runs_in x)
grown-none e x z = ap (λ (n : ℕ). grown e (take n x.at)) (sym z)

module _ (e : MBRPartitionEntry) where
  abbrev past : ℕ
  past = e.starting_lba + e.sectors

  grown-by : (rs : List Run) → (length rs ≡ 0 → ⊥)
      → pick (ltb past u32) (pick (ltb (e.sectors + length_at past rs) u32) (gives (e.sectors + length_at past rs)) (refuses 7)) (refuses 7) ≡ grown e rs
  grown-by [] h = absurd (h refl)
  grown-by (r ∷ rs) h = refl

  module _ (x : Runs) (k : x.count ≤ length x.at) (n : x.count ≡ 0 → ⊥) where
    here : pick (ltb past u32) (pick (ltb (e.sectors + length_at past (runs_in x)) u32) (gives (e.sectors + length_at past (runs_in x))) (refuses 7)) (refuses 7) ≡ grown e (runs_in x)
    here = grown-by (runs_in x) (λ (z : length (runs_in x) ≡ 0). n (omega (arith, length-take-le x.count x.at k)))

    pub grown-far : u32 ≤ past → refuses 7 ≡ grown e (runs_in x)
    grown-far h = sym (rw (le-ltb past u32 h)) ∙ here

    pub grown-over : (m : ℕ) → past < u32 → m ≡ length_at past (runs_in x) → u32 ≤ e.sectors + m → refuses 7 ≡ grown e (runs_in x)
    grown-over m h z l = sym (rw (lt-ltb past u32 h, ← z, le-ltb (e.sectors + m) u32 l)) ∙ here

    pub grown-in : (m : ℕ) → past < u32 → m ≡ length_at past (runs_in x) → e.sectors + m < u32 → gives (e.sectors + m) ≡ grown e (runs_in x)
    grown-in m h z l = sym (rw (lt-ltb past u32 h, ← z, lt-ltb (e.sectors + m) u32 l)) ∙ here

-- where there are runs, the count is no greater than the capacity, and the lookup does not refuse
pub growth-for : (t : MBR) (i : ℕ) → growth (get_says t i) (free t) ≡ maximum_for t i
growth-for t i = go (leb t.count most) refl
  where
    go : (b : Bool) → leb t.count most ≡ b → growth (get_says t i) (free t) ≡ maximum_for t i
    go true q =
        let e : get_says t i ≡ gives (entry_of t i) = rw q in
        ap (λ (g : Said (Option MBRPartitionEntry)). growth g (free t)) e
    go false q =
        let e : free t ≡ refuses 6 = sym (free-six t (leb-false t.count most q)) in
        ap (growth (get_says t i)) e ∙ sym (ap (λ (v : Said (List Run)). and_then v (grown_by (entry_of t i))) e)

-- what the searches over runs rest on
pub ruleset steps = (spot_on, spot-end, onward-chosen, largest-on, largest-end, length-hit, length-miss, length_none)

-- what growing rests on
pub ruleset growing = (grown-none, grown-far, grown-over, grown-in)
