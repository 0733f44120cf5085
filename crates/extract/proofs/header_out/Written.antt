-- Parts written one behind the other. Assumes nothing.
use mathlib.Core.Path.{◌≡◌, refl, ap, ◌∙◌}
use mathlib.Core.List.{List, ◌++◌}
use Prim.Native.Nat.{ℕ, ◌+◌, ◌*◌, ◌-◌, ◌≤◌}
use native.Mathlib.Omega.{arith}
use native.Mathlib.Nat.{add_assoc}
use lib.ListN.{length, drop, length-append, length-drop}
use lib.Seq.{length-take-le}
use Rattle.base.specs.Bytes.{bytes_of, little}
use Rattle.base.specs.Put.{put}
use Rattle.base.proofs.Put.{behind}
use Rattle.extract.specs.declared.Extract.{Extract}
use Rattle.extract.specs.Header.{header_bytes}
use Rattle.extract.specs.Cut.{from_to, many, lba_parts, record_parts, all_parts, Room}
use Rattle.extract.proofs.header_out.Header.{length-header}

pub length_part : (x : List ℕ) (a e : ℕ) → a ≤ e → e ≤ length x → length (from_to x a e) ≡ e - a
length_part x a e h k = length-take-le (e - a) (drop a x) (omega (arith, length-drop a x))

-- three parts
pub three : (d d₁ d₂ d₃ : List ℕ) (at n m : ℕ) (xs ys zs : List ℕ) → length xs ≡ n → length ys ≡ m → at + n + m ≤ length d
    → d₁ ≡ put d at xs → d₂ ≡ put d₁ (at + n) ys → d₃ ≡ put d₂ (at + n + m) zs → d₃ ≡ put d at (xs ++ ys ++ zs)
three d d₁ d₂ d₃ at n m xs ys zs l k h e f g =
    let r = behind d d₁ d₂ at n xs ys l (omega arith) e f in
    let o : length (xs ++ ys) ≡ n + m = length-append xs ys ∙ omega arith in
    behind d d₂ d₃ at (n + m) (xs ++ ys) zs o (omega arith) r (g ∙ ap (λ i. put d₂ i zs) (add_assoc at n m))

-- the header
pub header-written : (d d₁ d₂ d₃ d₄ d₅ d₆ : List ℕ) (z s n : ℕ) → 24 ≤ length d
    → d₁ ≡ put d 0 (bytes_of little 4 z) → d₂ ≡ put d₁ 4 (bytes_of little 4 s) → d₃ ≡ put d₂ 8 (bytes_of little 4 n)
    → d₄ ≡ put d₃ 12 (bytes_of little 4 24) → d₅ ≡ put d₄ 16 (bytes_of little 4 (24 + n * 4)) → d₆ ≡ put d₅ 20 (bytes_of little 4 (24 + n * 516))
    → d₆ ≡ put d 0 (header_bytes z s n)
unfolding header_bytes
header-written d d₁ d₂ d₃ d₄ d₅ d₆ z s n h e₁ e₂ e₃ e₄ e₅ e₆ =
    let w = bytes_of little 4 in
    let f₂ = behind d d₁ d₂ 0 4 (w z) (w s) refl (omega arith) e₁ e₂ in
    let f₃ = behind d d₂ d₃ 0 8 (w z ++ w s) (w n) refl (omega arith) f₂ e₃ in
    let f₄ = behind d d₃ d₄ 0 12 (w z ++ w s ++ w n) (w 24) refl (omega arith) f₃ e₄ in
    let f₅ = behind d d₄ d₅ 0 16 (w z ++ w s ++ w n ++ w 24) (w (24 + n * 4)) refl (omega arith) f₄ e₅ in
    behind d d₅ d₆ 0 20 (w z ++ w s ++ w n ++ w 24 ++ w (24 + n * 4)) (w (24 + n * 516)) refl (omega arith) f₅ e₆

-- the LBAs and the records
pub lbas-written : (d d₁ d₂ d₃ x : List ℕ) (n p q a : ℕ) → Room x n p q → 24 + many n p q * 4 ≤ length d
    → d₁ ≡ put d 24 (from_to x 24 (24 + p * 4)) → d₂ ≡ put d₁ (24 + p * 4) (bytes_of little 4 a) → d₃ ≡ put d₂ (24 + p * 4 + 4) (from_to x (24 + q * 4) (24 + n * 4))
    → d₃ ≡ put d 24 (lba_parts x n p q a)
lbas-written d d₁ d₂ d₃ x n p q a r h e f g =
    let l : length (from_to x 24 (24 + p * 4)) ≡ p * 4 = length_part x 24 (24 + p * 4) (omega arith) (omega arith) ∙ omega arith in
    three d d₁ d₂ d₃ 24 (p * 4) 4 (from_to x 24 (24 + p * 4)) (bytes_of little 4 a) (from_to x (24 + q * 4) (24 + n * 4)) l refl (omega arith) e f g

pub records-written : (d d₁ d₂ d₃ x y : List ℕ) (at n p q : ℕ) → Room x n p q → length y ≡ 512 → at + many n p q * 512 ≤ length d
    → d₁ ≡ put d at (from_to x (24 + n * 4) (24 + n * 4 + p * 512)) → d₂ ≡ put d₁ (at + p * 512) y
    → d₃ ≡ put d₂ (at + p * 512 + 512) (from_to x (24 + n * 4 + q * 512) (24 + n * 516))
    → d₃ ≡ put d at (record_parts x n p q y)
records-written d d₁ d₂ d₃ x y at n p q r k h e f g =
    let b = 24 + n * 4 in
    let l : length (from_to x (24 + n * 4) (24 + n * 4 + p * 512)) ≡ p * 512 = length_part x b (b + p * 512) (omega arith) (omega arith) ∙ omega arith in
    three d d₁ d₂ d₃ at (p * 512) 512 (from_to x b (b + p * 512)) y (from_to x (b + q * 512) (24 + n * 516)) l k (omega arith) e f g

length-lba_parts : (x : List ℕ) (n p q a : ℕ) → Room x n p q → length (lba_parts x n p q a) ≡ many n p q * 4
length-lba_parts x n p q a r =
    let l = length_part x 24 (24 + p * 4) (omega arith) (omega arith) in
    let m = length_part x (24 + q * 4) (24 + n * 4) (omega arith) (omega arith) in
    length-append (from_to x 24 (24 + p * 4) ++ bytes_of little 4 a) (from_to x (24 + q * 4) (24 + n * 4))
    ∙ omega (arith, length-append (from_to x 24 (24 + p * 4)) (bytes_of little 4 a))

-- all
pub all-written : (d d₁ d₂ d₃ x y : List ℕ) (e : Extract) (p q a : ℕ) → Room x e.count p q → 24 + many e.count p q * 516 ≤ length d
    → d₁ ≡ put d 0 (header_bytes e.sector_size e.disk_size (many e.count p q)) → d₂ ≡ put d₁ 24 (lba_parts x e.count p q a)
    → d₃ ≡ put d₂ (24 + many e.count p q * 4) (record_parts x e.count p q y)
    → d₃ ≡ put d 0 (all_parts x e p q a y)
all-written d d₁ d₂ d₃ x y e p q a r h f g k =
    let m = many e.count p q in
    let t = header_bytes e.sector_size e.disk_size m in
    three d d₁ d₂ d₃ 0 24 (m * 4) t (lba_parts x e.count p q a) (record_parts x e.count p q y)
    (length-header e.sector_size e.disk_size m) (length-lba_parts x e.count p q a r) (omega arith) f g k
