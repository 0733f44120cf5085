-- An extract written and read back, and the parts of an extract. Assumes nothing.
use mathlib.Core.Path.{◌≡◌, refl, sym, ap, ◌∙◌}
use mathlib.Core.List.{List, [], ◌∷◌, ◌++◌, append_assoc, append-nil}
use Prim.Native.Nat.{ℕ, zero, suc, ◌+◌, ◌*◌, ◌≤◌, ◌<◌}
use native.Mathlib.Omega.{arith}
use lib.ListN.{length, take, drop, length-append, length-drop}
use lib.Seq.{take_at, drop_at, take-add, drop-drop, length-take-le}
use Rattle.base.specs.Bytes.{Bytes, number, bytes_of, little}
use Rattle.base.proofs.Bytes.{bytes-append, bytes_take, bytes_drop, bytes-bytes_of, number-bytes_of, bytes_of-number, bytes_at-part}
use Rattle.extract.specs.Disk.{Store}
use Rattle.extract.specs.Extract.{word, count, lba_at, record_at, records_from, lbas_from}
use Rattle.extract_lay.specs.Layover.{lba_bytes, record_bytes, extract_bytes}
use Rattle.extract.specs.Header.{header_bytes}
use Rattle.extract.specs.Rules.{most_records}
use Rattle.extract_lay.proofs.Sorted.{lbas_of, Fit}
pub use Rattle.extract.proofs.header_out.Header.{length-header}

-- a word is the number in its four bytes
pub word-part : (x : List ℕ) (at : ℕ) → at + 4 ≤ length x → word x at ≡ number little (take 4 (drop at x))
unfolding word
word-part x at h = ap (number little) (bytes_at-part x at 4 h)

pub word_read : (x p q : List ℕ) (v at : ℕ) → v < 4294967296 → length p ≡ at → x ≡ p ++ bytes_of little 4 v ++ q → word x at ≡ v
word_read x p q v at h l e =
    let b = bytes_of little 4 v in
    let g : x ≡ p ++ (b ++ q) = e ∙ append_assoc p b q in
    let n : length x ≡ length p + length (b ++ q) = ap length g ∙ length-append p (b ++ q) in
    let t : take 4 (drop at x) ≡ b = ap (λ y. take 4 (drop at y)) g ∙ ap (take 4) (drop_at p (b ++ q) at l) ∙ take_at b q 4 refl in
    word-part x at (omega arith) ∙ ap (number little) t ∙ number-bytes_of little 4 v h

-- lengths
pub length-lba_bytes : (ss : List Store) → length (lba_bytes ss) ≡ length ss * 4
unfolding lba_bytes
length-lba_bytes [] = refl
length-lba_bytes (s ∷ ss) = omega (arith, length-append (bytes_of little 4 s.lba) (lba_bytes ss), length-lba_bytes ss)

pub length-record_bytes : (ss : List Store) → Fit ss → length (record_bytes ss) ≡ length ss * 512
unfolding record_bytes
length-record_bytes [] f = refl
length-record_bytes (s ∷ ss) f = omega (arith, length-append s.bytes (record_bytes ss), length-record_bytes ss f.1, f.0.1.long)

pub length-extract : (z d : ℕ) (ss : List Store) → Fit ss → length (extract_bytes z d ss) ≡ 24 + length ss * 516
unfolding extract_bytes
length-extract z d ss f =
    let h = header_bytes z d (length ss) in
    length-append (h ++ lba_bytes ss) (record_bytes ss)
    ∙ omega (arith, length-append h (lba_bytes ss), length-header z d (length ss), length-lba_bytes ss, length-record_bytes ss f)

-- bytes
bytes-lbas : (ss : List Store) → Bytes (lba_bytes ss)
unfolding lba_bytes
bytes-lbas [] = tt
bytes-lbas (s ∷ ss) = bytes-append (bytes_of little 4 s.lba) (lba_bytes ss) (bytes-bytes_of little 4 s.lba) (bytes-lbas ss)

bytes-records : (ss : List Store) → Fit ss → Bytes (record_bytes ss)
unfolding record_bytes
bytes-records [] f = tt
bytes-records (s ∷ ss) f = bytes-append s.bytes (record_bytes ss) f.0.1.bytes (bytes-records ss f.1)

bytes-header : (z d n : ℕ) → Bytes (header_bytes z d n)
unfolding header_bytes
bytes-header z d n = omega arith

pub bytes-extract : (z d : ℕ) (ss : List Store) → Fit ss → Bytes (extract_bytes z d ss)
unfolding extract_bytes
bytes-extract z d ss f =
    let h = header_bytes z d (length ss) in
    bytes-append (h ++ lba_bytes ss) (record_bytes ss) (bytes-append h (lba_bytes ss) (bytes-header z d (length ss)) (bytes-lbas ss)) (bytes-records ss f)

-- the header reads back
module _ (z d : ℕ) (ss : List Store) where
  pub header-size : z < 4294967296 → word (extract_bytes z d ss) 0 ≡ z
  unfolding word extract_bytes header_bytes
  header-size h = number-bytes_of little 4 z h

  pub header-disk : d < 4294967296 → word (extract_bytes z d ss) 4 ≡ d
  unfolding word extract_bytes header_bytes
  header-disk h = number-bytes_of little 4 d h

  pub header-count : length ss ≤ most_records → word (extract_bytes z d ss) 8 ≡ length ss
  unfolding word extract_bytes header_bytes
  header-count h = number-bytes_of little 4 (length ss) (omega arith)

  pub header-list : word (extract_bytes z d ss) 12 ≡ 24
  unfolding word extract_bytes header_bytes
  header-list = refl

  pub header-records : length ss ≤ most_records → word (extract_bytes z d ss) 16 ≡ 24 + length ss * 4
  unfolding word extract_bytes header_bytes
  header-records h = number-bytes_of little 4 (24 + length ss * 4) (omega arith)

  pub header-total : length ss ≤ most_records → word (extract_bytes z d ss) 20 ≡ 24 + length ss * 516
  unfolding word extract_bytes header_bytes
  header-total h = number-bytes_of little 4 (24 + length ss * 516) (omega arith)

-- records that stand in an extract are read back
both : (s : Store) (a : ℕ) (r : List ℕ) → a ≡ s.lba → r ≡ s.bytes → record { lba = a; bytes = r } ≡ s
both s a r e f = rw (e, f)

read_back : (x : List ℕ) (ss : List Store) (n i : ℕ) (p q p' q' : List ℕ) → count x ≡ n → Fit ss
    → x ≡ p ++ lba_bytes ss ++ q → length p ≡ 24 + i * 4 → x ≡ p' ++ record_bytes ss ++ q' → length p' ≡ 24 + n * 4 + i * 512
    → records_from x i (length ss) ≡ ss
unfolding records_from record_at lba_bytes record_bytes
read_back x [] n i p q p' q' c f e l e' l' = refl
read_back x (s ∷ ss) n i p q p' q' c f e l e' l' =
    let w = bytes_of little 4 s.lba in
    let h : x ≡ p ++ w ++ lba_bytes ss ++ q = e ∙ ap (λ y. y ++ q) (sym (append_assoc p w (lba_bytes ss))) in
    let a : lba_at x i ≡ s.lba = word_read x p (lba_bytes ss ++ q) s.lba (24 + i * 4) f.0.0 l (h ∙ append_assoc (p ++ w) (lba_bytes ss) q) in
    let h' : x ≡ p' ++ s.bytes ++ record_bytes ss ++ q' = e' ∙ ap (λ y. y ++ q') (sym (append_assoc p' s.bytes (record_bytes ss))) in
    let g : x ≡ p' ++ (s.bytes ++ (record_bytes ss ++ q')) = h' ∙ append_assoc (p' ++ s.bytes) (record_bytes ss) q' ∙ append_assoc p' s.bytes (record_bytes ss ++ q') in
    let at = 24 + count x * 4 + i * 512 in
    let o : length p' ≡ 24 + count x * 4 + i * 512 = omega arith in
    let b : take 512 (drop (24 + count x * 4 + i * 512) x) ≡ s.bytes =
    ap (λ y. take 512 (drop at y)) g ∙ ap (take 512) (drop_at p' (s.bytes ++ (record_bytes ss ++ q')) at o) ∙ take_at s.bytes (record_bytes ss ++ q') 512 f.0.1.long in
    let m : length (p ++ w) ≡ 24 + (i + 1) * 4 = length-append p w ∙ omega arith in
    let m' : length (p' ++ s.bytes) ≡ 24 + n * 4 + (i + 1) * 512 = length-append p' s.bytes ∙ omega (arith, f.0.1.long) in
    let r = read_back x ss n (i + 1) (p ++ w) q (p' ++ s.bytes) q' c f.1 h m h' m' in
    ap (λ y. y ∷ records_from x (i + 1) (length ss)) (both s (lba_at x i) (take 512 (drop at x)) a b) ∙ ap (◌∷◌ s) r

pub records-back : (z d : ℕ) (ss : List Store) → Fit ss → length ss ≤ most_records → records_from (extract_bytes z d ss) 0 (count (extract_bytes z d ss)) ≡ ss
unfolding extract_bytes
records-back z d ss f h =
    let x = extract_bytes z d ss in
    let t = header_bytes z d (length ss) in
    let c : count x ≡ length ss = header-count z d ss h in
    let l : length t ≡ 24 + 0 * 4 = length-header z d (length ss) in
    let m : length (t ++ lba_bytes ss) ≡ 24 + length ss * 4 + 0 * 512 =
    length-append t (lba_bytes ss) ∙ omega (arith, length-header z d (length ss), length-lba_bytes ss) in
    ap (records_from x 0) c ∙ read_back x ss (length ss) 0 t (record_bytes ss) (t ++ lba_bytes ss) [] c f refl l (sym (append-nil (t ++ lba_bytes ss ++ record_bytes ss))) m

-- the bytes of LBAs and records of an extract are parts of it
pub word_bytes : (x : List ℕ) (at : ℕ) → Bytes x → at + 4 ≤ length x → bytes_of little 4 (word x at) ≡ take 4 (drop at x)
word_bytes x at b h =
    let t = take 4 (drop at x) in
    let l : length t ≡ 4 = length-take-le 4 (drop at x) (omega (arith, length-drop at x)) in
    ap (bytes_of little 4) (word-part x at h)
    ∙ ap (λ n. bytes_of little n (number little t)) (sym l)
    ∙ bytes_of-number little t (bytes_take 4 (drop at x) (bytes_drop at x b))

pub lbas-part : (x : List ℕ) → Bytes x → (i k : ℕ) → 24 + (i + k) * 4 ≤ length x → lba_bytes (records_from x i k) ≡ take (k * 4) (drop (24 + i * 4) x)
unfolding lba_bytes records_from
lbas-part x b i zero h = refl
lbas-part x b i (suc k) h =
    let at = 24 + i * 4 in
    let e : 24 + (i + 1) * 4 ≡ at + 4 = omega arith in
    let f : suc k * 4 ≡ 4 + k * 4 = omega arith in
    ap (λ y. y ++ lba_bytes (records_from x (i + 1) k)) (word_bytes x at b (omega arith))
    ∙ ap (◌++◌ (take 4 (drop at x))) (lbas-part x b (i + 1) k (omega arith) ∙ ap (λ n. take (k * 4) (drop n x)) e ∙ ap (take (k * 4)) (sym (drop-drop 4 at x)))
    ∙ sym (ap (λ n. take n (drop at x)) f ∙ take-add 4 (k * 4) (drop at x))

pub records-part : (x : List ℕ) (i k : ℕ) → record_bytes (records_from x i k) ≡ take (k * 512) (drop (24 + count x * 4 + i * 512) x)
unfolding record_bytes records_from record_at
records-part x i zero = refl
records-part x i (suc k) =
    let at = 24 + count x * 4 + i * 512 in
    let e : 24 + count x * 4 + (i + 1) * 512 ≡ at + 512 = omega arith in
    let f : suc k * 512 ≡ 512 + k * 512 = omega arith in
    ap (◌++◌ (take 512 (drop at x))) (records-part x (i + 1) k ∙ ap (λ n. take (k * 512) (drop n x)) e ∙ ap (take (k * 512)) (sym (drop-drop 512 at x)))
    ∙ sym (ap (λ n. take n (drop at x)) f ∙ take-add 512 (k * 512) (drop at x))

-- parts of lists of records
pub lba_bytes-append : (ss ts : List Store) → lba_bytes (ss ++ ts) ≡ lba_bytes ss ++ lba_bytes ts
unfolding lba_bytes
lba_bytes-append [] ts = refl
lba_bytes-append (s ∷ ss) ts = ap (◌++◌ (bytes_of little 4 s.lba)) (lba_bytes-append ss ts)

pub record_bytes-append : (ss ts : List Store) → record_bytes (ss ++ ts) ≡ record_bytes ss ++ record_bytes ts
unfolding record_bytes
record_bytes-append [] ts = refl
record_bytes-append (s ∷ ss) ts = ap (◌++◌ s.bytes) (record_bytes-append ss ts) ∙ sym (append_assoc s.bytes (record_bytes ss) (record_bytes ts))

pub length-records : (x : List ℕ) (i k : ℕ) → length (records_from x i k) ≡ k
unfolding records_from
length-records x i zero = refl
length-records x i (suc k) = ap suc (length-records x (i + 1) k)

pub lbas-records : (x : List ℕ) (i k : ℕ) → lbas_of (records_from x i k) ≡ lbas_from x i k
unfolding lbas_of records_from lbas_from
lbas-records x i zero = refl
lbas-records x i (suc k) = ap (◌∷◌ (lba_at x i)) (lbas-records x (i + 1) k)
