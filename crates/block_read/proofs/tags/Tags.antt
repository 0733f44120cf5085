-- The tags of a block, in words of eight and one after another. Assumes nothing.
use mathlib.Core.Path.{◌≡◌, refl, sym, ap, ◌∙◌}
use mathlib.Core.List.{List}
use mathlib.Core.Bool.{Bool, true, false, ◌&&◌}
use Prim.Native.Nat.{ℕ, zero, suc, ◌+◌, ◌-◌, ◌*◌, ◌/◌, ◌%◌, ◌≤◌, ◌<◌}
use native.Mathlib.Nat.{add-zero, zero-add, add_assoc}
use native.Mathlib.Omega.{arith}
use lib.Dec.{eqb}
use lib.Bits.{bit_or, bit_and, or_add_and, and_le_l, and_le_r, or_lt, or_mod, or_shr, and_zero_r, and_block, and_high}
use lib.ListN.{get_or}
use borrow.Author.Tests.{eq-eqb, ne_eqb, eqb-true, eqb-false, le-leb, lt-leb, leb-true, leb-false}
use Rattle.base.specs.Bytes.{plus, from, sum, bytes_at, number, little}
use Rattle.base.proofs.Bytes.{plus-eq}
use Rattle.block.specs.Block.{possible, tags_offset, tag_at, tagged}

-- eight bytes are four and four
pub four-and-four : (s : List ℕ) (at : ℕ) → number little (bytes_at s at 4) + number little (bytes_at s (at + 4) 4) * 4294967296 ≡ number little (bytes_at s at 8)
four-and-four s at = rw (add_assoc at 4 1, add_assoc at 4 2, add_assoc at 4 3) (omega arith)

or-least : (x y : ℕ) → (x ≤ bit_or x y) × (y ≤ bit_or x y)
or-least x y =
    let e = or_add_and x y in
    (omega (arith, e, and_le_r x y), omega (arith, e, and_le_l x y))

-- bytes laid over each other are a possible tag if each is
or-small : (x y : ℕ) → possible (bit_or x y) ≡ (possible x && possible y)
or-small x y = go (possible x) refl (possible y) refl
  where
    go : (p : Bool) → possible x ≡ p → (q : Bool) → possible y ≡ q → possible (bit_or x y) ≡ (p && q)
    go true e true f =
        let g : x < 4 = omega (arith, leb-true x 3 e) in
        let h : y < 4 = omega (arith, leb-true y 3 f) in
        let k : bit_or x y < 4 = or_lt 2 x y g h in
        le-leb (bit_or x y) 3 (omega (arith, k))
    go true e false f = lt-leb (bit_or x y) 3 (omega (arith, leb-false y 3 f, (or-least x y).1))
    go false e q f = lt-leb (bit_or x y) 3 (omega (arith, leb-false x 3 e, (or-least x y).0))

-- the n lowest bytes of a number are possible tags
abbrev pub small : ℕ → ℕ → Bool
small zero w = true
small (suc n) w = possible (w % 256) && small n (w / 256)

mix : (p q r s : Bool) → (p && q && (r && s)) ≡ (p && r && (q && s))
mix false q r s = refl
mix true true r s = refl
mix true false true s = refl
mix true false false s = refl

or-each : (n a b : ℕ) → small n (bit_or a b) ≡ (small n a && small n b)
or-each zero a b = refl
or-each (suc n) a b =
    let p : possible (bit_or a b % 256) ≡ (possible (a % 256) && possible (b % 256)) = ap possible (or_mod a b 8) ∙ or-small (a % 256) (b % 256) in
    let q : small n (bit_or a b / 256) ≡ (small n (a / 256) && small n (b / 256)) = ap (small n) (or_shr a b 8) ∙ or-each n (a / 256) (b / 256) in
    rw (p, q) (mix (possible (a % 256)) (possible (b % 256)) (small n (a / 256)) (small n (b / 256)))

-- the bits that no tag has, in each of n bytes
abbrev mask : ℕ → ℕ
mask zero = 0
mask (suc n) = mask n * 256 + 252

-- a byte has none of them exactly if it is a possible tag
byte-masked : (x : ℕ) → x < 256 → eqb (bit_and x 252) 0 ≡ possible x
byte-masked x h = go (possible x) refl
  where
    e : bit_and x 252 ≡ x / 4 % (256 / 4) * 4
    e = and_high x 6 2

    go : (p : Bool) → possible x ≡ p → eqb (bit_and x 252) 0 ≡ p
    go true f = eq-eqb (bit_and x 252) 0 (omega (arith, e, leb-true x 3 f))
    go false f =
        let k : 1 ≤ x / 4 = omega (arith, leb-false x 3 f) in
        let l : x / 4 % (256 / 4) ≡ x / 4 = omega (arith, h) in
        ne_eqb (bit_and x 252) 0 (λ z. omega (arith, e, z, k, l))

both-none : (p q : ℕ) → eqb (p * 256 + q) 0 ≡ (eqb q 0 && eqb p 0)
both-none p q = go (eqb q 0) refl (eqb p 0) refl
  where
    go : (x : Bool) → eqb q 0 ≡ x → (y : Bool) → eqb p 0 ≡ y → eqb (p * 256 + q) 0 ≡ (x && y)
    go true e true f = eq-eqb (p * 256 + q) 0 (omega (arith, eqb-true q 0 e, eqb-true p 0 f))
    go true e false f = ne_eqb (p * 256 + q) 0 (λ z. eqb-false p 0 f (omega (arith, z)))
    go false e y f = ne_eqb (p * 256 + q) 0 (λ z. eqb-false q 0 e (omega (arith, z)))

pub masked : (n w : ℕ) → eqb (bit_and w (mask n)) 0 ≡ small n w
masked zero w = ap (λ (v : ℕ). eqb v 0) (and_zero_r w)
masked (suc n) w =
    let z : w ≡ w / 256 * 256 + w % 256 = omega arith in
    let e : bit_and w (mask n * 256 + 252) ≡ bit_and (w / 256) (mask n) * 256 + bit_and (w % 256) 252 =
    ap (λ (v : ℕ). bit_and v (mask n * 256 + 252)) z ∙ and_block 8 (w / 256) (mask n) (w % 256) 252 (omega arith) (omega arith) in
    ap (λ (v : ℕ). eqb v 0) e ∙ both-none (bit_and (w / 256) (mask n)) (bit_and (w % 256) 252)
    ∙ rw (byte-masked (w % 256) (omega arith), masked n (w / 256))

-- the number in n bytes from that of tag i on
in_bytes : (b : List ℕ) → ((j : ℕ) → get_or b j 0 < 256) → (i k n : ℕ) → small n (sum (from b (tags_offset + i) k n)) ≡ tagged b (i + k) n
unfolding tagged
in_bytes b f i k zero = refl
in_bytes b f i k (suc n) =
    let x : ℕ = get_or b (plus (tags_offset + i) k) 0 in
    let r : ℕ = sum (from b (tags_offset + i) (suc k) n) in
    let h : x < 256 = f (plus (tags_offset + i) k) in
    let a : (x + 256 * r) % 256 ≡ x = omega (arith, h) in
    let d : (x + 256 * r) / 256 ≡ r = omega (arith, h) in
    let u : tags_offset + i + k ≡ tags_offset + (i + k) = omega arith in
    let t : x ≡ tag_at b (i + k) = ap (λ (m : ℕ). get_or b m 0) (plus-eq (tags_offset + i) k ∙ u) in
    let v : i + suc k ≡ suc (i + k) = omega arith in
    ap (λ (y : ℕ). possible y && small n ((x + 256 * r) / 256)) (a ∙ t)
    ∙ ap (λ (y : ℕ). possible (tag_at b (i + k)) && small n y) d
    ∙ ap (λ (y : Bool). possible (tag_at b (i + k)) && y) (in_bytes b f i (suc k) n ∙ ap (λ (m : ℕ). tagged b m n) v)

eight : (b : List ℕ) → ((j : ℕ) → get_or b j 0 < 256) → (i : ℕ) → small 8 (number little (bytes_at b (tags_offset + i) 8)) ≡ tagged b i 8
eight b f i = in_bytes b f i 0 8 ∙ ap (λ (m : ℕ). tagged b m 8) (add-zero i)

grouped : (p q r : Bool) → (p && (q && r)) ≡ (p && q && r)
grouped false q r = refl
grouped true q r = refl

split : (b : List ℕ) (m i n : ℕ) → tagged b i (m + n) ≡ (tagged b i m && tagged b (m + i) n)
unfolding tagged
split b zero i n = rw (zero-add n, zero-add i)
split b (suc m) i n =
    let z : suc m + n ≡ suc (m + n) = omega arith in
    let k : m + suc i ≡ suc m + i = omega arith in
    ap (tagged b i) z ∙ ap (λ (t : Bool). possible (tag_at b i) && t) (split b m (suc i) n ∙ ap (λ (j : ℕ). tagged b (suc i) m && tagged b j n) k)
    ∙ grouped (possible (tag_at b i)) (tagged b (suc i) m) (tagged b (suc m + i) n)

-- the first m and the n behind them
module _ (b : List ℕ) (m n : ℕ) where
  pub first-wrong : tagged b 0 m ≡ false → tagged b 0 (m + n) ≡ false
  first-wrong e = split b m 0 n ∙ ap (λ (t : Bool). t && tagged b (m + 0) n) e

  pub first-right : tagged b 0 m ≡ true → tagged b 0 (m + n) ≡ tagged b m n
  first-right e = split b m 0 n ∙ ap (λ (t : Bool). t && tagged b (m + 0) n) e ∙ ap (λ (j : ℕ). tagged b j n) (add-zero m)

-- no word, no tag
pub none-tagged : (b : List ℕ) → small 8 0 ≡ tagged b 0 0
unfolding tagged
none-tagged b = refl

module _ (b : List ℕ) (f : (j : ℕ) → get_or b j 0 < 256) where
  -- i words laid over each other, and one more
  pub word_over : (all word i : ℕ) → small 8 all ≡ tagged b 0 (8 * i) → word ≡ number little (bytes_at b (tags_offset + 8 * i) 8)
      → small 8 (bit_or all word) ≡ tagged b 0 (8 * (i + 1))
  word_over all word i p q =
      let e : 8 * (i + 1) ≡ 8 * i + 8 = omega arith in
      let u : small 8 word ≡ tagged b (8 * i) 8 = ap (small 8) q ∙ eight b f (8 * i) in
      or-each 8 all word ∙ rw (p, u) (sym (ap (tagged b 0) e ∙ split b (8 * i) 0 8 ∙ ap (λ (j : ℕ). tagged b 0 (8 * i) && tagged b j 8) (add-zero (8 * i))))

-- one tag after another, from i up to n
module _ (b : List ℕ) (i n : ℕ) (h : i < n) where
  next : n - i ≡ suc (n - suc i)
  next = omega arith

  pub tags-wrong : 3 < get_or b (tags_offset + i) 0 → tagged b i (n - i) ≡ false
  unfolding tagged
  tags-wrong k = ap (tagged b i) next ∙ rw (lt-leb (tag_at b i) 3 k)

  pub tags-go-on : get_or b (tags_offset + i) 0 ≤ 3 → tagged b i (n - i) ≡ tagged b (i + 1) (n - (i + 1))
  unfolding tagged
  tags-go-on k =
      let e : suc i ≡ i + 1 = omega arith in
      ap (tagged b i) next ∙ rw (le-leb (tag_at b i) 3 k) (ap (λ (j : ℕ). tagged b j (n - j)) e)

pub tags-end : (b : List ℕ) (i n : ℕ) → n ≤ i → tagged b i (n - i) ≡ true
unfolding tagged
tags-end b i n h = let e : n - i ≡ 0 = omega arith in ap (tagged b i) e
