-- Laws of free runs: what each step of the search adds. Assumes nothing.
use Rattle.base.specs.declared.Refusal.{Refusal}
use mathlib.Core.Path.{◌≡◌, refl, sym, ap, ◌∙◌}
use mathlib.Core.List.{List, [], ◌∷◌, ◌++◌, append_assoc, append-nil, map}
use mathlib.Core.Bool.{Bool, true, false, ◌&&◌}
use Rattle.std.specs.Prelude.{Option, None, Some, Result, Ok, Err}
use Prim.Native.Nat.{ℕ, suc, ◌+◌, ◌-◌, ◌/◌, ◌%◌, ◌≤◌, ◌<◌}
use native.Mathlib.Numerals.{add-one}
use native.Mathlib.Nat.{div-add-mod', mod-lt, add-mul, one-mul}
use native.Mathlib.Omega.{arith}
use native.Mathlib.Decide.{dec_lt}
use lib.Dec.{ltb, leb}
use lib.ListN.{length, drop, get_or, set, replicate, length-append, drop_of_length-le}
use lib.Seq.{drop-cons, take_at, set_at}
use borrow.Author.Tests.{lt-ltb, le-ltb, lt-leb, le-leb, ltb-true}
use Rattle.base.specs.Pick.{pick}
use Rattle.base.specs.Said.{refusal_code, Said, gives, refuses, and_then, value_or}
use Rattle.base.specs.All.{allb}
use Rattle.record_entry.specs.declared.MBRPartitionEntry.{MBRPartitionEntry}
use Rattle.table_free.specs.declared.Run.{Run}
use Rattle.table_free.specs.declared.Runs.{Runs}
use Rattle.base.proofs.Checks.{answered-injective}
use Rattle.record_entry.specs.Entry.{no_entry}
use Rattle.record_mbr.specs.Mbr.{primaries}
use Rattle.table.specs.declared.LogicalPartition.{LogicalPartition}
use Rattle.table.specs.declared.MBR.{MBR}
use Rattle.table.specs.Table.{logicals, extended_in, no_logical, rounded, most}
use Rattle.table_free.specs.Sort.{sort, insert}
use Rattle.table_free.specs.Free.{run, u32, zone, primary_zones, logical_zones, ends, whole, positions, pairs, apart, kept, rounded_run, in_range, runs_among, area, joined, inner, outer, free, run_list, runs_in, more, closed, between, Below, Ended, Usable, Told, most_runs}

-- rounding up: the next multiple of the alignment above a
module _ (align a : ℕ) (h : 0 < align) where
  pub step_in : a % align < align
  step_in = mod-lt a h

  pub up_step : rounded align (a + 1) ≡ a + (align - a % align)
  unfolding rounded
  up_step =
      let e : a + 1 - 1 ≡ a = omega arith in
      rw e (omega (arith, div-add-mod' a align, step_in, add-mul (a / align) 1 align, one-mul align))

  -- what lies between two positions
  module _ (b : ℕ) where
    pub gap-equal : b ≤ a → runs_among align (a ∷ b ∷ []) ≡ refuses 7
    unfolding apart
    gap-equal k = rw (le-ltb a b k)

    pub gap-next : a < b → b - a ≡ 1 → runs_among align (a ∷ b ∷ []) ≡ gives []
    unfolding apart kept pairs allb
    gap-next k e = rw (lt-ltb a b k, le-ltb 0 (b - a - 1) (omega arith))

    module _ (k : a < b) (l : 1 < b - a) where
      pub gap-far : u32 ≤ a + (align - a % align) → runs_among align (a ∷ b ∷ []) ≡ refuses 7
      unfolding apart kept pairs allb
      gap-far f = rw (lt-ltb a b k, lt-ltb 0 (b - a - 1) (omega arith), up_step, le-ltb (a + (align - a % align)) u32 f)

      pub gap-gone : a + (align - a % align) < u32 → b ≤ a + (align - a % align) → runs_among align (a ∷ b ∷ []) ≡ gives []
      unfolding apart kept pairs allb
      gap-gone f g =
          rw (lt-ltb a b k, lt-ltb 0 (b - a - 1) (omega arith), up_step, lt-ltb (a + (align - a % align)) u32 f, le-ltb 0 (b - a - 1 - (a + (align - a % align) - (a + 1))) (omega (arith, step_in)))

      pub gap-free : a + (align - a % align) < u32 → a + (align - a % align) < b
          → runs_among align (a ∷ b ∷ []) ≡ gives (run (a + (align - a % align)) (b - (a + (align - a % align))) ∷ [])
      unfolding apart kept pairs allb
      gap-free f g =
          let p = a + (align - a % align) in
          let x : a + 1 + (p - (a + 1)) ≡ p = omega (arith, step_in) in
          let y : b - a - 1 - (p - (a + 1)) ≡ b - p = omega (arith, step_in) in
          rw (lt-ltb a b k, lt-ltb 0 (b - a - 1) (omega arith), up_step, lt-ltb p u32 f, lt-ltb 0 (b - a - 1 - (p - (a + 1))) (omega (arith, step_in)), x, y)

-- the list of runs as it travels
pub runs-listed : (rs : List Run) → runs_in (run_list rs) ≡ rs
unfolding run_list
runs-listed rs = take_at rs (replicate (most_runs - length rs) (run 0 0)) (length rs) refl

pub listed-again : (rs : List Run) (x : Runs) → x ≡ run_list rs → x ≡ run_list (runs_in x)
listed-again rs x e = e ∙ ap run_list (sym (ap runs_in e ∙ runs-listed rs))

pub listed-none : (x : Runs) → x ≡ run_list [] → x.count ≡ 0
unfolding run_list
listed-none x e = ap (λ (y : Runs). y.count) e

spare : (n : ℕ) → n < most_runs → replicate (most_runs - n) (run 0 0) ≡ run 0 0 ∷ replicate (most_runs - suc n) (run 0 0)
spare n h =
    let e : most_runs - n ≡ suc (most_runs - suc n) = omega arith in
    ap (λ (k : ℕ). replicate k (run 0 0)) e

put_next : (at : List Run) (n : ℕ) (rs : List Run) (r : Run) → at ≡ rs ++ replicate (most_runs - length rs) (run 0 0) → n ≡ length rs → n < most_runs
    → record { at = set at n r; count = n + 1 } ≡ run_list (rs ++ (r ∷ []))
unfolding run_list
put_next at n rs r e f h =
    let l : length (rs ++ (r ∷ [])) ≡ n + 1 = length-append rs (r ∷ []) ∙ omega arith in
    let z : most_runs - length (rs ++ (r ∷ [])) ≡ most_runs - suc n = omega arith in
    let s : set at n r ≡ rs ++ r ∷ replicate (most_runs - suc n) (run 0 0) =
    ap (λ (a : List Run). set a n r) (e ∙ ap (λ (k : ℕ). rs ++ replicate (most_runs - k) (run 0 0)) (sym f) ∙ ap (◌++◌ rs) (spare n h)) ∙ set_at rs (run 0 0) (replicate (most_runs - suc n) (run 0 0)) r n (sym f) in
    let t : (rs ++ (r ∷ [])) ++ replicate (most_runs - length (rs ++ (r ∷ []))) (run 0 0) ≡ rs ++ r ∷ replicate (most_runs - suc n) (run 0 0) =
    append_assoc rs (r ∷ []) (replicate (most_runs - length (rs ++ (r ∷ []))) (run 0 0)) ∙ ap (λ (k : ℕ). rs ++ r ∷ replicate k (run 0 0)) z in
    rw (s, t, l)

pub listed_more : (x : Runs) (r : Run) → x ≡ run_list (runs_in x) → x.count < most_runs
    → record { at = set x.at x.count r; count = x.count + 1 } ≡ run_list (runs_in x ++ (r ∷ []))
unfolding run_list
listed_more x r e h = put_next x.at x.count (runs_in x) r (ap (λ (y : Runs). y.at) e) (ap (λ (y : Runs). y.count) e) h

-- runs joined to runs
pub joined-none : (v : Said (List Run)) → v ≡ joined [] v
joined-none (gives rs) = refl
joined-none (refuses k) = refl

pub joined-twice : (rs ss : List Run) (v : Said (List Run)) → joined rs (joined ss v) ≡ joined (rs ++ ss) v
joined-twice rs ss (gives ts) = rw (append_assoc rs ss ts)
joined-twice rs ss (refuses k) = refl

-- the first pair and the rest: a 7 in either is a 7
seven : (b : Bool) (rs : List Run) → refuses 7 ≡ and_then (pick b (gives rs) (refuses 7)) (λ (ss : List Run). joined ss (refuses 7))
seven true rs = refl
seven false rs = refl

two : (A : Bool) (e f E : Bool) (r : Run) (rs : List Run)
    → pick A (pick (e && E) (gives (pick f (r ∷ rs) rs)) (refuses 7)) (refuses 7)
    ≡ and_then (pick (e && true) (gives (pick f (r ∷ []) [])) (refuses 7)) (λ (ss : List Run). joined ss (pick A (pick E (gives rs) (refuses 7)) (refuses 7)))
two true false f E r rs = refl
two false false f E r rs = refl
two true true true true r rs = refl
two true true true false r rs = refl
two true true false true r rs = refl
two true true false false r rs = refl
two false true true E r rs = refl
two false true false E r rs = refl

pub found-two : (align a b : ℕ) (ps : List ℕ) → runs_among align (a ∷ b ∷ ps) ≡ and_then (runs_among align (a ∷ b ∷ [])) (λ (rs : List Run). joined rs (runs_among align ps))
unfolding apart kept pairs allb
found-two align a b ps = go (ltb a b) (ltb 0 (b - a - 1))
  where
    k : List Run
    k = kept (pairs ps)

    h : Run
    h = run (a + 1) (b - a - 1)

    go : (c d : Bool)
        → pick (c && apart ps) (pick (allb (in_range align) (pick d (h ∷ k) k)) (gives (kept (map (rounded_run align) (pick d (h ∷ k) k)))) (refuses 7)) (refuses 7)
        ≡ and_then (pick (c && true) (pick (allb (in_range align) (pick d (h ∷ []) [])) (gives (kept (map (rounded_run align) (pick d (h ∷ []) [])))) (refuses 7)) (refuses 7)) (λ (rs : List Run). joined rs (runs_among align ps))
    go false d = refl
    go true false = joined-none (runs_among align ps)
    go true true = two (apart ps) (in_range align h) (ltb 0 (rounded_run align h).length) (allb (in_range align) k) (rounded_run align h) (kept (map (rounded_run align) k))

short : (align : ℕ) (l : List ℕ) → length l ≤ 1 → runs_among align l ≡ gives []
unfolding apart kept pairs allb
short align [] h = refl
short align (a ∷ []) h = refl
short align (a ∷ b ∷ l) h = absurd (omega arith)

-- a pair of positions, and those behind it
module _ (align : ℕ) (x behind all : List ℕ) (e : all ≡ x ++ behind) (n : length x ≡ 2) where
  two_at : (x : List ℕ) → length x ≡ 2 → x ++ behind ≡ get_or x 0 0 ∷ get_or x 1 0 ∷ behind
  two_at [] n = absurd (omega arith)
  two_at (a ∷ []) n = absurd (omega arith)
  two_at (a ∷ b ∷ []) n = refl
  two_at (a ∷ b ∷ c ∷ x) n = absurd (omega arith)

  at_pair : runs_among align all ≡ and_then (runs_among align (get_or x 0 0 ∷ get_or x 1 0 ∷ [])) (λ (rs : List Run). joined rs (runs_among align behind))
  at_pair = rw (e, two_at x n) (found-two align (get_or x 0 0) (get_or x 1 0) behind)

  module _ (rs : List Run) where
    pub pair-none : gives [] ≡ runs_among align (get_or x 0 0 ∷ get_or x 1 0 ∷ []) → joined rs (runs_among align all) ≡ joined rs (runs_among align behind)
    pair-none g = ap (joined rs) (at_pair ∙ rw (← g) (sym (joined-none (runs_among align behind))))

    pub pair-some : (r : Run) → gives (r ∷ []) ≡ runs_among align (get_or x 0 0 ∷ get_or x 1 0 ∷ [])
        → joined rs (runs_among align all) ≡ joined (rs ++ (r ∷ [])) (runs_among align behind)
    pair-some r g = ap (joined rs) (at_pair ∙ rw (← g)) ∙ joined-twice rs (r ∷ []) (runs_among align behind)

    pub pair-refused : (k : ℕ) → refuses k ≡ runs_among align (get_or x 0 0 ∷ get_or x 1 0 ∷ []) → joined rs (runs_among align all) ≡ refuses k
    pair-refused k g =
        let e : runs_among align all ≡ refuses k = at_pair ∙ rw (← g) in
        ap (joined rs) e

pub pair_end : (align : ℕ) (ps : List ℕ) (rs : List Run) → length ps < 2 → joined rs (runs_among align ps) ≡ gives rs
pair_end align ps rs h = ap (joined rs) (short align ps (omega arith)) ∙ rw (append-nil rs)

-- positions, collected one after the other
allb-append : (f : Run → Bool) (xs ys : List Run) → allb f (xs ++ ys) ≡ allb f xs && allb f ys
unfolding allb
allb-append f [] ys = refl
allb-append f (x ∷ xs) ys = go (f x) (allb-append f xs ys)
  where
    go : (b : Bool) → allb f (xs ++ ys) ≡ allb f xs && allb f ys → b && allb f (xs ++ ys) ≡ (b && allb f xs) && allb f ys
    go true ih = ih
    go false ih = refl

ends-append : (xs ys : List Run) → ends (xs ++ ys) ≡ ends xs ++ ends ys
unfolding ends
ends-append [] ys = refl
ends-append (x ∷ xs) ys = rw (ends-append xs ys)

pub more-append : (v : Said (List ℕ)) (xs ys : List Run) → more (more v xs) ys ≡ more v (xs ++ ys)
more-append (refuses k) xs ys = refl
more-append (gives ps) xs ys = rw (allb-append whole xs ys, ends-append xs ys) (go (allb whole xs) (allb whole ys))
  where
    go : (b c : Bool) → and_then (pick b (gives (ps ++ ends xs)) (refuses 7)) (λ (qs : List ℕ). pick c (gives (qs ++ ends ys)) (refuses 7)) ≡ pick (b && c) (gives (ps ++ (ends xs ++ ends ys))) (refuses 7)
    go true true = rw (append_assoc ps (ends xs) (ends ys))
    go true false = refl
    go false c = refl

pub more-nil : (v : Said (List ℕ)) → more v [] ≡ v
unfolding allb ends
more-nil (gives ps) = rw (append-nil ps)
more-nil (refuses k) = refl

pub positions-steps : (from to : ℕ) (zs : List Run) → closed (more (gives (from ∷ [])) zs) to ≡ positions from to zs
positions-steps from to zs = go (allb whole zs)
  where
    go : (b : Bool) → closed (pick b (gives ((from ∷ []) ++ ends zs)) (refuses 7)) to ≡ pick b (pick (ltb to u32) (gives (from ∷ ends zs ++ (to ∷ []))) (refuses 7)) (refuses 7)
    go true = refl
    go false = refl

-- one turn over the primary partitions
pub primary-on : (es : List MBRPartitionEntry) (i : ℕ) → i < length es → (v w : Said (List ℕ)) → w ≡ more v (zone 0 (get_or es i no_entry))
    → more v (primary_zones (drop i es)) ≡ more w (primary_zones (drop (i + 1) es))
unfolding primary_zones
primary-on es i h v w e =
    let x = get_or es i no_entry in
    let d : drop i es ≡ x ∷ drop (i + 1) es = drop-cons es i no_entry h ∙ ap (λ (j : ℕ). x ∷ drop j es) (sym (add-one i)) in
    ap (λ (l : List MBRPartitionEntry). more v (primary_zones l)) d ∙ sym (more-append v (zone 0 x) (primary_zones (drop (i + 1) es)))
    ∙ ap (λ (u : Said (List ℕ)). more u (primary_zones (drop (i + 1) es))) (sym e)

pub primary-end : (es : List MBRPartitionEntry) (i : ℕ) → length es ≤ i → (v : Said (List ℕ)) → more v (primary_zones (drop i es)) ≡ v
unfolding primary_zones
primary-end es i h v = ap (λ (l : List MBRPartitionEntry). more v (primary_zones l)) (drop_of_length-le es {i = i} h) ∙ more-nil v

-- one turn over the logical partitions
pub logical-on : (ls : List LogicalPartition) (i : ℕ) → i < length ls → (v w : Said (List ℕ))
    → w ≡ more v (zone (get_or ls i no_logical).absolute_ebr_lba.0 (get_or ls i no_logical).partition)
    → more v (logical_zones (drop i ls)) ≡ more w (logical_zones (drop (i + 1) ls))
unfolding logical_zones
logical-on ls i h v w e =
    let l = get_or ls i no_logical in
    let z = zone l.absolute_ebr_lba.0 l.partition in
    let d : drop i ls ≡ l ∷ drop (i + 1) ls = drop-cons ls i no_logical h ∙ ap (λ (j : ℕ). l ∷ drop j ls) (sym (add-one i)) in
    ap (λ (x : List LogicalPartition). more v (logical_zones x)) d ∙ sym (more-append v z (logical_zones (drop (i + 1) ls)))
    ∙ ap (λ (u : Said (List ℕ)). more u (logical_zones (drop (i + 1) ls))) (sym e)

pub logical-end : (ls : List LogicalPartition) (i : ℕ) → length ls ≤ i → (v : Said (List ℕ)) → more v (logical_zones (drop i ls)) ≡ v
unfolding logical_zones
logical-end ls i h v = ap (λ (x : List LogicalPartition). more v (logical_zones x)) (drop_of_length-le ls {i = i} h) ∙ more-nil v

-- runs joined to none
pub first-area : (x : Runs) (v : Said (List Run)) → x ≡ run_list [] → joined (runs_in x) v ≡ v
first-area x v e = ap (λ (rs : List Run). joined rs v) (ap runs_in e ∙ runs-listed []) ∙ sym (joined-none v)

-- the refusals before everything else, and the search
module _ (t : MBR) where
  pub free-six : most < t.count → refuses 6 ≡ free t
  unfolding free
  free-six h = rw (lt-leb t.count most h)

  pub free-zero : t.count ≤ most → t.align ≡ 0 → refuses 7 ≡ free t
  unfolding free
  free-zero h e = rw (le-leb t.count most h, le-ltb 0 t.align (omega arith))

  -- the search itself: the area of the whole disk, then that of the extended entry
  module _ (h : t.count ≤ most) (k : 0 < t.align) where
    pub free-outer : (n : ℕ) → outer t ≡ refuses n → refuses n ≡ free t
    unfolding free
    free-outer n e = rw (le-leb t.count most h, lt-ltb 0 t.align k, e)

    module _ (rs : List Run) (e : outer t ≡ gives rs) where
      pub free-alone : extended_in t ≡ None → gives rs ≡ free t
      unfolding free
      free-alone n = rw (le-leb t.count most h, lt-ltb 0 t.align k, e, n, append-nil rs)

      pub free-both : (x : MBRPartitionEntry) → extended_in t ≡ Some x → joined rs (inner t.align (Some x) (logicals t)) ≡ free t
      unfolding free
      free-both x n = rw (le-leb t.count most h, lt-ltb 0 t.align k, e, n)

-- the same refusal, of another type
abbrev said_none : Said (List Run) → Said Runs
said_none (gives rs) = gives (run_list rs)
said_none (refuses k) = refuses k

-- no second answer says the same
pub told-one : (r s : Result Runs Refusal) (v : Said (List Run)) → Told r v → Told s v → r ≡ s
told-one (Err a) (Err b) v t u = answered-injective (Err a) (Err b) (ap said_none (t.0 ∙ sym u.0))
told-one (Ok x) (Err b) v t u =
    let e : gives (runs_in x) ≡ refuses (refusal_code b) = t.0 ∙ sym u.0 in
    let w : ◌≡◌ {A = ℕ} 0 1 = cc in
    absurd (omega arith)
told-one (Err a) (Ok y) v t u =
    let e : gives (runs_in y) ≡ refuses (refusal_code a) = u.0 ∙ sym t.0 in
    let w : ◌≡◌ {A = ℕ} 0 1 = cc in
    absurd (omega arith)
told-one (Ok x) (Ok y) v t u =
    let e : gives (runs_in x) ≡ gives (runs_in y) = t.0 ∙ sym u.0 in
    let f : runs_in x ≡ runs_in y = cc in
    ap Ok (t.1 ∙ ap run_list f ∙ sym u.1)

-- numbers of 32 bits, and runs that end by the last of them
below-insert : (v : ℕ) (xs : List ℕ) → v < u32 → Below xs → Below (insert v xs)
unfolding insert
below-insert v [] h b = (h, tt)
below-insert v (x ∷ xs) h b = go (leb v x) (below-insert v xs h b.1)
  where
    go : (c : Bool) → Below (insert v xs) → Below (pick c (v ∷ x ∷ xs) (x ∷ insert v xs))
    go true ih = (h, b)
    go false ih = (b.0, ih)

below-sort : (xs : List ℕ) → Below xs → Below (sort xs)
unfolding sort
below-sort [] b = tt
below-sort (x ∷ xs) b = below-insert x (sort xs) b.0 (below-sort xs b.1)

below-append : (xs : List ℕ) (v : ℕ) → Below xs → v < u32 → Below (xs ++ (v ∷ []))
below-append [] v b h = (h, tt)
below-append (x ∷ xs) v b h = (b.0, below-append xs v b.1 h)

below-ends : (zs : List Run) → allb whole zs ≡ true → Below (ends zs)
unfolding allb ends
below-ends [] h = tt
below-ends (z ∷ zs) h = go (ltb 0 (z.start + z.length)) (ltb (z.start + z.length) u32) refl (below-ends zs) h
  where
    go : (b c : Bool) → ltb (z.start + z.length) u32 ≡ c → (allb whole zs ≡ true → Below (ends zs)) → (b && c) && allb whole zs ≡ true → Below (ends (z ∷ zs))
    go true true q ih e =
        let k : z.start + z.length < u32 = ltb-true (z.start + z.length) u32 q in
        (omega arith, (omega arith, ih e))
    go true false q ih e = let w : ◌≡◌ {A = ℕ} 0 1 = cc in absurd (omega arith)
    go false c q ih e = let w : ◌≡◌ {A = ℕ} 0 1 = cc in absurd (omega arith)

ended-append : (rs ss : List Run) → Ended rs → Ended ss → Ended (rs ++ ss)
ended-append [] ss e f = f
ended-append (r ∷ rs) ss e f = (e.0, ended-append rs ss e.1 f)

-- every run that is found ends by the last number of 32 bits
abbrev EndedIn : Said (List Run) → Type 0
EndedIn v = Ended (value_or [] v)

ended-joined : (rs : List Run) (v : Said (List Run)) → Ended rs → EndedIn v → EndedIn (joined rs v)
ended-joined rs (gives ss) e f = ended-append rs ss e f
ended-joined rs (refuses k) e f = tt

ended-then : (v : Said (List Run)) (f : List Run → Said (List Run)) → EndedIn v → ((rs : List Run) → Ended rs → EndedIn (f rs)) → EndedIn (and_then v f)
ended-then (gives rs) f e g = g rs e
ended-then (refuses k) f e g = tt

ended-gap : (align a b : ℕ) → 0 < align → b < u32 → EndedIn (runs_among align (a ∷ b ∷ []))
ended-gap align a b h l =
    elim (dec_lt a b) [
      | no x ↦ rw (gap-equal align a h b (omega arith)) tt
      | yes x ↦ elim (dec_lt 1 (b - a)) [
        | no y ↦ rw (gap-next align a h b x (omega arith)) tt
        | yes y ↦ elim (dec_lt (a + (align - a % align)) u32) [
          | no z ↦ rw (gap-far align a h b x y (omega arith)) tt
          | yes z ↦ elim (dec_lt (a + (align - a % align)) b) [
            | no w ↦ rw (gap-gone align a h b x y z (omega arith)) tt
            | yes w ↦ rw (gap-free align a h b x y z w) (omega arith, tt)
          ]
        ]
      ]
    ]

ended-found : (align : ℕ) (ps : List ℕ) → 0 < align → Below ps → EndedIn (runs_among align ps)
ended-found align [] h b = rw (short align [] (omega arith)) tt
ended-found align (a ∷ []) h b = rw (short align (a ∷ []) (omega arith)) tt
ended-found align (a ∷ c ∷ ps) h b =
    rw (found-two align a c ps)
    (ended-then (runs_among align (a ∷ c ∷ [])) (λ (rs : List Run). joined rs (runs_among align ps)) (ended-gap align a c h b.1.0) (λ (rs : List Run) (e : Ended rs). ended-joined rs (runs_among align ps) e (ended-found align ps h b.1.1)))

ended-area : (align from to : ℕ) (zs : List Run) → 0 < align → from ≤ to → EndedIn (area align from to zs)
ended-area align from to zs h l = go (allb whole zs) (ltb to u32) refl refl
  where
    go : (b c : Bool) → allb whole zs ≡ b → ltb to u32 ≡ c → EndedIn (between align (pick b (pick c (gives (from ∷ ends zs ++ (to ∷ []))) (refuses 7)) (refuses 7)))
    go true true p q =
        let k : to < u32 = ltb-true to u32 q in
        ended-found align (sort (from ∷ ends zs ++ (to ∷ []))) h (below-sort (from ∷ ends zs ++ (to ∷ [])) (omega arith, below-append (ends zs) to (below-ends zs p) k))
    go true false p q = tt
    go false c p q = tt

ended-inner : (align : ℕ) (o : Option MBRPartitionEntry) (ls : List LogicalPartition) → 0 < align → EndedIn (inner align o ls)
ended-inner align None ls h = tt
ended-inner align (Some e) ls h = ended-area align e.starting_lba (e.starting_lba + e.sectors) (logical_zones ls) h (omega arith)

usable : (align : ℕ) (v : Said (List Run)) → 0 < align → EndedIn v → Usable align v
usable align (gives rs) h e = (h, e)
usable align (refuses k) h e = tt

-- a list of free runs is found at an alignment above 0 alone, and each ends by the last number of 32 bits
pub free-usable : (t : MBR) → Usable t.align (free t)
unfolding free
free-usable t = go (leb t.count most) (ltb 0 t.align) refl
  where
    v : Said (List Run)
    v = and_then (outer t) (λ (rs : List Run). joined rs (inner t.align (extended_in t) (logicals t)))

    go : (b c : Bool) → ltb 0 t.align ≡ c → Usable t.align (pick b (pick c v (refuses 7)) (refuses 6))
    go true true q =
        let h : 0 < t.align = ltb-true 0 t.align q in
        usable t.align v h (ended-then (outer t) (λ (rs : List Run). joined rs (inner t.align (extended_in t) (logicals t))) (ended-area t.align 0 t.disk_size (primary_zones (primaries t.header)) h (omega arith)) (λ (rs : List Run) (e : Ended rs). ended-joined rs (inner t.align (extended_in t) (logicals t)) e (ended-inner t.align (extended_in t) (logicals t) h)))
    go true false q = tt
    go false c q = tt

pub usable-runs : (t : MBR) (rs : List Run) → gives rs ≡ free t → (0 < t.align) × Ended rs
usable-runs t rs e = rw (← e) at (free-usable t)

-- what the gap between two positions rests on
pub ruleset gap_steps = (gap-equal, gap-next, gap-far, gap-gone, gap-free, step_in)
