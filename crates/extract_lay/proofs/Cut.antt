-- Where the search leads, the record is laid. Assumes nothing.
use Rattle.std.specs.Prelude.{Ok, Err}
use mathlib.Core.Path.{◌≡◌, refl, sym, ap, subst, ◌∙◌}
use mathlib.Core.List.{List, ◌∷◌, ◌++◌}
use Prim.Native.Nat.{ℕ, zero, suc, ◌+◌, ◌-◌, ◌≤◌, ◌<◌}
use native.Mathlib.Omega.{arith}
use Rattle.base.specs.Bytes.{Record}
use Rattle.extract.specs.Disk.{Store}
use Rattle.extract.specs.Extract.{count, lba_at, records_from, records, Good}
use Rattle.extract.specs.Answers.{header_of}
use Rattle.extract.specs.ListSpot.{SpotOf}
use Rattle.extract.specs.declared.Extract.{Extract}
use Rattle.extract.proofs.Good.{lba-less, good-few, good-long}
use Rattle.extract_lay.specs.Layover.{laid_over, new_records}
use Rattle.extract_lay.specs.Cut.{cut, Laying}
use Rattle.extract_lay.proofs.Sorted.{over-lower, over-same, over-higher}

-- the first m of the records are lower: they stay in front
skip : (x : List ℕ) (s : Store) (m i k : ℕ) → ((j : ℕ) → i ≤ j → j < i + m → lba_at x j < s.lba)
    → laid_over s (records_from x i (m + k)) ≡ records_from x i m ++ laid_over s (records_from x (i + m) k)
unfolding records_from
skip x s zero i k h =
    let e : 0 + k ≡ k = omega arith in
    let f : i + 0 ≡ i = omega arith in
    ap (λ n. laid_over s (records_from x i n)) e ∙ ap (λ n. laid_over s (records_from x n k)) (sym f)
skip x s (suc m) i k h =
    let e : suc m + k ≡ suc (m + k) = omega arith in
    let f : i + 1 + m ≡ i + suc m = omega arith in
    let t : Store = record { lba = lba_at x i; bytes = _ } in
    ap (λ n. laid_over s (records_from x i n)) e
    ∙ over-higher s t (records_from x (i + 1) (m + k)) (h i (omega arith) (omega arith))
    ∙ ap (◌∷◌ t) (skip x s m (i + 1) k (λ j p q. h j (omega arith) (omega arith)) ∙ ap (λ n. records_from x (i + 1) m ++ laid_over s (records_from x n k)) f)

-- in the place of the one at its LBA
pub cut-found : (x : List ℕ) → Good x → (s : Store) (i : ℕ) → i < count x → lba_at x i ≡ s.lba → laid_over s (records x) ≡ cut x (count x) i (i + 1) s
unfolding records_from
cut-found x g s i h e =
    let n = count x in
    let k = n - (i + 1) in
    let z : n ≡ i + suc k = omega arith in
    let y : 0 + i ≡ i = omega arith in
    let t : Store = record { lba = lba_at x i; bytes = _ } in
    ap (λ m. laid_over s (records_from x 0 m)) z
    ∙ skip x s i 0 (suc k) (λ j p q. subst (λ a. lba_at x j < a) e (lba-less x g j i (omega arith) h))
    ∙ ap (λ m. records_from x 0 i ++ laid_over s (records_from x m (suc k))) y
    ∙ ap (◌++◌ (records_from x 0 i)) (over-same s t (records_from x (i + 1) k) (sym e))

-- before the first that is higher
before : (x : List ℕ) (s : Store) (p k : ℕ) → (0 < k → s.lba < lba_at x p) → laid_over s (records_from x p k) ≡ s ∷ records_from x p k
unfolding records_from laid_over
before x s p zero h = refl
before x s p (suc k) h = over-lower s (record { lba = lba_at x p; bytes = _ }) (records_from x (p + 1) k) (h (omega arith))

pub cut-absent : (x : List ℕ) (s : Store) (p : ℕ) → p ≤ count x → ((j : ℕ) → j < p → lba_at x j < s.lba)
    → ((j : ℕ) → p ≤ j → j < count x → s.lba < lba_at x j) → laid_over s (records x) ≡ cut x (count x) p p s
cut-absent x s p h below above =
    let n = count x in
    let k = n - p in
    let z : n ≡ p + k = omega arith in
    let y : 0 + p ≡ p = omega arith in
    ap (λ m. laid_over s (records_from x 0 m)) z
    ∙ skip x s p 0 k (λ j q r. below j (omega arith))
    ∙ ap (λ m. records_from x 0 p ++ laid_over s (records_from x m k)) y
    ∙ ap (◌++◌ (records_from x 0 p)) (before x s p k (λ q. above p (omega arith) (omega arith)))

-- what the search found is what the writing requires
laying : (x : List ℕ) (p q a : ℕ) (r : List ℕ) → Good x → p ≤ q → q ≤ count x → Record r → a < 4294967296
    → new_records x a r ≡ cut x (count x) p q (record { lba = a; bytes = r }) → Laying x (header_of x) p q a r
laying x p q a r g h k f w c = record {
  good = g;
  header = refl;
  room = record { from = h; until = k; few = good-few x g; long = omega (arith, good-long x g) };
  fit = f;
  word = w;
  cuts = c;
}

module _ (x : List ℕ) (g : Good x) (e : Extract) (t : e ≡ header_of x) (a i : ℕ) (r : List ℕ) (f : Record r) (w : a < 4294967296) where
  pub laying-found : SpotOf x e.count a (Ok i) → Laying x e i (i + 1) a r
  laying-found =
      subst (λ h. SpotOf x h.count a (Ok i) → Laying x h i (i + 1) a r) (sym t)
      (λ s. laying x i (i + 1) a r g (omega arith) (omega (arith, s.0)) f w (cut-found x g (record { lba = a; bytes = r }) i s.0 s.1))

  pub laying-absent : SpotOf x e.count a (Err i) → Laying x e i i a r
  laying-absent =
      subst (λ h. SpotOf x h.count a (Err i) → Laying x h i i a r) (sym t)
      (λ s. laying x i i a r g (omega arith) s.0 f w (cut-absent x (record { lba = a; bytes = r }) i s.0 s.1 s.2))
