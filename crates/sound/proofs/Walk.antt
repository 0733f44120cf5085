-- The rules in the code's order are rules S1 to S19. Assumes nothing.
use mathlib.Core.Path.{◌≡◌, refl, sym, subst, ◌∙◌}
use mathlib.Core.Logic.{◌⊎◌, inl, inr}
use Rattle.std.specs.Prelude.{Option, None, Some}
use mathlib.Core.Bool.{Bool, true, false, ◌&&◌}
use mathlib.Core.List.{List, [], ◌∷◌}
use Prim.Native.Nat.{ℕ, zero, suc, ◌+◌, ◌≤◌, ◌<◌}
use native.Mathlib.Omega.{arith}
use native.Mathlib.Numerals.{add-one}
use lib.Dec.{leb, eqb}
use lib.ListN.{length, get_or, take, drop, drop_of_length-le}
use lib.Seq.{drop-cons}
use borrow.Author.Tests.{ne_eqb}
use Rattle.base.specs.Row.{Row}
use Rattle.base.specs.All.{All, allb}
use Rattle.base.specs.Bytes.{stands_at, signature}
use Rattle.record_entry.specs.declared.MBRPartitionEntry.{MBRPartitionEntry}
use Rattle.record_entry.specs.Entry.{used, extended, end_of}
use Rattle.table.specs.declared.LogicalPartition.{LogicalPartition}
use Rattle.chain.specs.Facts.{at, start}
use Rattle.sound.specs.Is.{Is, Pairs, pairsb}
use Rattle.sound.specs.Sound.{Contents, primaries_of, extended_entry, vacantb, end, zones, Signed, signedb, Flagged, EntryChs, LogicalChs, Used, Apart, Extended, NotBoth, Owned, FirstAt, OfLink, Sound, soundb}
use Rattle.sound.specs.Walk.{spanb, primaryb, pairb, ownb, zoneb, placeb, coverb, linkb, turnb, standb, rowsb, chainb, walkb}
use Rattle.sound.proofs.Is.{is_lt, is_le, is_eq, is_true, is-unit, is_never, is-not, is-and, is-or, is-if, is_all, is-pairs}
use Rattle.sound.proofs.Test.{is-flag, is-entry-chs, is-logical-chs, is-apart, is-not-both, is-link, is_signed, is-sound}
use Rattle.sound.proofs.Good.{Own, Zone, Place, Span, Good, sound-first, sound-row, resound}

pub bool-ext : (a b : Bool) → (a ≡ true → b ≡ true) → (b ≡ true → a ≡ true) → a ≡ b
bool-ext true b f g = sym (f refl)
bool-ext false true f g = g refl
bool-ext false false f g = refl

pub and_true : (b : Bool) → b && true ≡ b
and_true true = refl
and_true false = refl

-- the tests as facts
abbrev InSpan : ℕ → MBRPartitionEntry → Type 0
InSpan D e = (1 ≤ e.starting_lba) × ((1 ≤ e.sectors) × (end_of e ≤ D))

abbrev Primary : ℕ → MBRPartitionEntry → Type 0
Primary D e = Flagged e × (EntryChs e × (Used e → InSpan D e))

abbrev Pair : MBRPartitionEntry → MBRPartitionEntry → Type 0
Pair e f = Apart e f × NotBoth e f

abbrev Alone : LogicalPartition → Type 0
Alone l = Flagged l.partition × (LogicalChs l × (¬ (Extended l.partition)))

abbrev Behind : LogicalPartition → Type 0
Behind l = Used l.partition × ((1 ≤ l.partition.sectors) × (at l < start l))

abbrev Stays : Bool → LogicalPartition → Type 0
Stays first l = Behind l ⊎ ((first ≡ true) × (vacantb l ≡ true))

abbrev Covers : ℕ → LogicalPartition → ℕ → Type 0
Covers hi l n = (1 ≤ n) × ((at l + n ≤ hi) × (end l ≤ at l + n))

abbrev Link : ℕ → LogicalPartition → Type 0
Link hi l = OfLink (Covers hi l) ⊥ l.ebr_sectors

abbrev Turn : ℕ → Bool → ℕ → LogicalPartition → Type 0
Turn hi true from l = at l ≡ from
Turn hi false from l = (from ≤ at l) × Link hi l

abbrev Stand : ℕ → Bool → ℕ → LogicalPartition → Type 0
Stand hi first from l = Alone l × (Stays first l × Turn hi first from l)

abbrev Rows : ℕ → Bool → ℕ → List LogicalPartition → Type 0
Rows hi first from [] = from ≤ hi
Rows hi first from (l ∷ ls) = Stand hi first from l × Rows hi false (end l) ls

abbrev Chain : Option MBRPartitionEntry → List LogicalPartition → Type 0
Chain None [] = Unit {0}
Chain None (l ∷ ls) = ⊥
Chain (Some e) ls = Rows (end_of e) true e.starting_lba ls

is-primary : (D : ℕ) (e : MBRPartitionEntry) → Is (Primary D e) (primaryb D e)
unfolding primaryb spanb
is-primary D e =
    is-and _ _ _ _ (is-flag e)
    (is-and _ _ _ _ (is-entry-chs e)
    (is-if _ _ _ _ (is_true (used e.sys))
    (is-and _ _ _ _ (is_le 1 e.starting_lba) (is-and _ _ _ _ (is_le 1 e.sectors) (is_le (end_of e) D)))))

is-pair : (e f : MBRPartitionEntry) → Is (Pair e f) (pairb e f)
unfolding pairb
is-pair e f = is-and _ _ _ _ (is-apart e f) (is-not-both e f)

is-alone : (l : LogicalPartition) → Is (Alone l) (ownb l)
unfolding ownb
is-alone l =
    is-and _ _ _ _ (is-flag l.partition)
    (is-and _ _ _ _ (is-logical-chs l) (is-not _ _ (is_true (extended l.partition.sys))))

is-behind : (l : LogicalPartition) → Is (Behind l) (zoneb l)
unfolding zoneb
is-behind l = is-and _ _ _ _ (is_true (used l.partition.sys)) (is-and _ _ _ _ (is_le 1 l.partition.sectors) (is_lt (at l) (start l)))

is-stays : (first : Bool) (l : LogicalPartition) → Is (Stays first l) (placeb first l)
unfolding placeb
is-stays first l = is-or _ _ _ _ (is-behind l) (is-and _ _ _ _ (is_true first) (is_true (vacantb l)))

is-covers : (hi : ℕ) (l : LogicalPartition) (n : ℕ) → Is (Covers hi l n) (coverb hi l n)
unfolding coverb
is-covers hi l n = is-and _ _ _ _ (is_le 1 n) (is-and _ _ _ _ (is_le (at l + n) hi) (is_le (end l) (at l + n)))

is-turn : (hi : ℕ) (first : Bool) (from : ℕ) (l : LogicalPartition) → Is (Turn hi first from l) (turnb hi first from l)
unfolding turnb linkb
is-turn hi true from l = is_eq (at l) from
is-turn hi false from l = is-and _ _ _ _ (is_le from (at l)) (is-link (Covers hi l) (coverb hi l) ⊥ false (is-covers hi l) is_never l.ebr_sectors)

is-stand : (hi : ℕ) (first : Bool) (from : ℕ) (l : LogicalPartition) → Is (Stand hi first from l) (standb hi first from l)
unfolding standb
is-stand hi first from l = is-and _ _ _ _ (is-alone l) (is-and _ _ _ _ (is-stays first l) (is-turn hi first from l))

is-rows : (hi : ℕ) (first : Bool) (from : ℕ) (ls : List LogicalPartition) → Is (Rows hi first from ls) (rowsb hi first from ls)
unfolding rowsb
is-rows hi first from [] = is_le from hi
is-rows hi first from (l ∷ ls) = is-and _ _ _ _ (is-stand hi first from l) (is-rows hi false (end l) ls)

is-chain : (o : Option MBRPartitionEntry) (ls : List LogicalPartition) → Is (Chain o ls) (chainb o ls)
unfolding chainb
is-chain None [] = is-unit
is-chain None (l ∷ ls) = is_never
is-chain (Some e) ls = is-rows (end_of e) true e.starting_lba ls

abbrev Walk : Contents → Type 0
Walk t = Signed t × (All (Primary t.size) (primaries_of t) × (Pairs Pair (primaries_of t) × Chain (extended_entry t) t.logicals))

is-walk : (t : Contents) → Is (Walk t) (walkb t)
unfolding walkb
is-walk t =
    is-and _ _ _ _ (is_signed t)
    (is-and _ _ _ _ (is_all (Primary t.size) (primaryb t.size) (is-primary t.size) (primaries_of t))
    (is-and _ _ _ _ (is-pairs Pair pairb is-pair (primaries_of t)) (is-chain (extended_entry t) t.logicals)))

-- a chain as a row of good partitions, both ways
span-in : (hi : ℕ) (m : LogicalPartition) → Zone m → Link hi m → Span hi m
span-in hi m z k = go m.ebr_sectors refl k
  where
    go : (s : Option ℕ) → m.ebr_sectors ≡ s → OfLink (Covers hi m) ⊥ s → Span hi m
    go None q k = absurd k
    go (Some n) q k = record { zone = z; span = n; sectors = q; size = k.0; ends = k.1.0; covers = k.1.1 }

in_span : (hi : ℕ) (m : LogicalPartition) → Span hi m → Link hi m
in_span hi m s = subst (OfLink (Covers hi m) ⊥) (sym s.sectors) (s.size, (s.ends, s.covers))

own_of : (l : LogicalPartition) → Alone l → Own l
own_of l a = record { flag = a.0; chs = a.1.0; plain = a.1.1 }

zone-of : (l : LogicalPartition) → Behind l → Zone l
zone-of l b = record { used = b.0; after = b.1.1; size = b.1.0 }

place_of : (first : Bool) (l : LogicalPartition) → Stays first l → Place l
place_of first l (inl b) = inl (zone-of l b)
place_of first l (inr v) = inr v.1

-- a later one is a zone
later-zone : (l : LogicalPartition) → Stays false l → Zone l
later-zone l (inl b) = zone-of l b
later-zone l (inr v) = let w : ◌≡◌ {A = Bool} false true = v.0 in let n : ◌≡◌ {A = ℕ} 0 1 = cc in absurd (omega arith)

rows→good : (hi : ℕ) (first : Bool) (from : ℕ) (ls : List LogicalPartition) → Rows hi first from ls → Row (Good hi) ls None
rows→good hi first from [] r = tt
rows→good hi first from (l ∷ []) (s, r) = (record { own = own_of l s.0; place = place_of first l s.1.0; ends = r; linked = tt }, tt)
rows→good hi first from (l ∷ m ∷ ms) (s, (k, r)) = (
  record { own = own_of l s.0; place = place_of first l s.1.0; ends = k.1.1.0; linked = span-in hi m (later-zone m k.1.0) k.1.1.1 },
  rows→good hi false (end l) (m ∷ ms) (k, r),
)

behind-of : (l : LogicalPartition) → Zone l → Behind l
behind-of l z = (z.used, (z.size, z.after))

stays_of : (l : LogicalPartition) → Place l → Stays true l
stays_of l (inl z) = inl (behind-of l z)
stays_of l (inr v) = inr (refl, v)

stand_of : (hi : ℕ) (first : Bool) (from : ℕ) (l : LogicalPartition) (n : Option LogicalPartition) → Stays first l → Turn hi first from l → Good hi l n → Stand hi first from l
stand_of hi first from l n w t g = ((g.own.flag, (g.own.chs, g.own.plain)), (w, t))

good→rows : (hi : ℕ) (first : Bool) (from : ℕ) (l : LogicalPartition) (ls : List LogicalPartition) → Stays first l → Turn hi first from l → Row (Good hi) (l ∷ ls) None
    → Rows hi first from (l ∷ ls)
good→rows hi first from l [] w t (g, r) = (stand_of hi first from l None w t g, g.ends)
good→rows hi first from l (m ∷ ms) w t (g, r) = (
  stand_of hi first from l (Some m) w t g,
  good→rows hi false (end l) m ms (inl (behind-of m g.linked.zone)) (g.ends, in_span hi m g.linked) r,
)

rows-first : (hi : ℕ) (from : ℕ) (ls : List LogicalPartition) → Rows hi true from ls → FirstAt from ls
rows-first hi from [] r = tt
rows-first hi from (l ∷ ls) r = r.0.1.1

first_rows : (e : MBRPartitionEntry) (ls : List LogicalPartition) → FirstAt e.starting_lba ls → Row (Good (end_of e)) ls None
    → Rows (end_of e) true e.starting_lba ls
first_rows e [] f r = omega arith
first_rows e (l ∷ ls) f r = good→rows (end_of e) true e.starting_lba l ls (stays_of l r.0.place) f r

-- facts of all entries, and of all pairs
module _ {A : Type 0} where
  all_map : (P Q : A → Type 0) → ((x : A) → P x → Q x) → (xs : List A) → All P xs → All Q xs
  all_map P Q f [] a = tt
  all_map P Q f (x ∷ xs) a = (f x a.0, all_map P Q f xs a.1)

  all-and : (P Q : A → Type 0) (xs : List A) → All P xs → All Q xs → All (λ x. P x × Q x) xs
  all-and P Q [] a b = tt
  all-and P Q (x ∷ xs) a b = ((a.0, b.0), all-and P Q xs a.1 b.1)

  pairs-map : (P Q : A → A → Type 0) → ((x y : A) → P x y → Q x y) → (xs : List A) → Pairs P xs → Pairs Q xs
  pairs-map P Q f [] a = tt
  pairs-map P Q f (x ∷ xs) a = (all_map (P x) (Q x) (f x) xs a.0, pairs-map P Q f xs a.1)

  pairs-and : (P Q : A → A → Type 0) (xs : List A) → Pairs P xs → Pairs Q xs → Pairs (λ x y. P x y × Q x y) xs
  pairs-and P Q [] a b = tt
  pairs-and P Q (x ∷ xs) a b = (all-and (P x) (Q x) xs a.0 b.0, pairs-and P Q xs a.1 b.1)

-- a table with no logical partitions
abbrev bare : Contents → Contents
bare t = record { width = t.width; size = t.size; header = t.header; logicals = [] }

module _ (t : Contents) where
  owned-none : (o : Option MBRPartitionEntry) → Owned o []
  owned-none None = tt
  owned-none (Some e) = tt

  bare-sound : Signed t → All (Primary t.size) (primaries_of t) → Pairs Pair (primaries_of t) → Sound (bare t)
  unfolding zones
  bare-sound s a p = record {
    signed = s;
    flags = (all_map (Primary t.size) Flagged (λ e k. k.0) (primaries_of t) a, tt);
    addresses = (all_map (Primary t.size) EntryChs (λ e k. k.1.0) (primaries_of t) a, tt);
    starts = all_map (Primary t.size) (λ e. Used e → 1 ≤ e.starting_lba) (λ e k u. (k.1.1 u).0) (primaries_of t) a;
    sizes = all_map (Primary t.size) (λ e. Used e → 1 ≤ e.sectors) (λ e k u. (k.1.1 u).1.0) (primaries_of t) a;
    on-disk = all_map (Primary t.size) (λ e. Used e → end_of e ≤ t.size) (λ e k u. (k.1.1 u).1.1) (primaries_of t) a;
    apart = pairs-map Pair Apart (λ e f k. k.0) (primaries_of t) p;
    one = pairs-map Pair NotBoth (λ e f k. k.1) (primaries_of t) p;
    owned = owned-none (extended_entry t);
    used = tt;
    plain = tt;
    sized = tt;
    behind = tt;
    ends = tt;
    first = tt;
    ascend = tt;
    link-sized = tt;
    link-ends = tt;
    link-covers = tt;
  }

  chain-sound : (o : Option MBRPartitionEntry) → extended_entry t ≡ o → Sound (bare t) → (ls : List LogicalPartition) → Chain o ls
      → Sound (record { width = t.width; size = t.size; header = t.header; logicals = ls })
  chain-sound None x s [] k = s
  chain-sound None x s (l ∷ ls) k = absurd k
  chain-sound (Some e) x s ls k =
      resound (end_of e) (bare t) e refl s x ls (rows-first (end_of e) e.starting_lba ls k) (rows→good (end_of e) true e.starting_lba ls k)

  sound-chain : (o : Option MBRPartitionEntry) → extended_entry t ≡ o → Sound t → Chain o t.logicals
  sound-chain None x s = go t.logicals (rw x at s.owned)
    where
      go : (ls : List LogicalPartition) → Owned None ls → Chain None ls
      go [] k = tt
      go (l ∷ ls) k = k
  sound-chain (Some e) x s = first_rows e t.logicals (sound-first t e s x) (sound-row t e s x)

  walk→sound : Walk t → Sound t
  walk→sound (s, (a, (p, k))) = chain-sound (extended_entry t) refl (bare-sound s a p) t.logicals k

  spans : Sound t → All (λ e. Used e → InSpan t.size e) (primaries_of t)
  spans s =
      all_map (λ e. (Used e → 1 ≤ e.starting_lba) × ((Used e → 1 ≤ e.sectors) × (Used e → end_of e ≤ t.size))) (λ e. Used e → InSpan t.size e)
      (λ e k u. (k.0 u, (k.1.0 u, k.1.1 u))) (primaries_of t)
      (all-and (λ e. Used e → 1 ≤ e.starting_lba) (λ e. (Used e → 1 ≤ e.sectors) × (Used e → end_of e ≤ t.size)) (primaries_of t) s.starts
      (all-and (λ e. Used e → 1 ≤ e.sectors) (λ e. Used e → end_of e ≤ t.size) (primaries_of t) s.sizes s.on-disk))

  sound→walk : Sound t → Walk t
  sound→walk s = (
    s.signed,
    (
      all-and Flagged (λ e. EntryChs e × (Used e → InSpan t.size e)) (primaries_of t) s.flags.0
          (all-and EntryChs (λ e. Used e → InSpan t.size e) (primaries_of t) s.addresses.0 (spans s)),
      (pairs-and Apart NotBoth (primaries_of t) s.apart s.one, sound-chain (extended_entry t) refl s),
    ),
  )

  -- the code's order is as good as that of rules S1 to S19
  pub walk-sound : walkb t ≡ soundb t
  walk-sound = bool-ext (walkb t) (soundb t) (λ h. (is-sound t).from (walk→sound ((is-walk t).to h))) (λ h. (is-walk t).from (sound→walk ((is-sound t).to h)))

-- the parts of the test
pub sound_parts : (t : Contents)
    → soundb t ≡ stands_at t.header.boot_signature 0 signature && (allb (primaryb t.size) (primaries_of t) && (pairsb pairb (primaries_of t) && chainb (extended_entry t) t.logicals))
unfolding walkb signedb
sound_parts t = sym (walk-sound t)

-- a turn of a loop over a list
module _ (hi : ℕ) (ls : List LogicalPartition) (d : LogicalPartition) where
  row_step : (first : Bool) (from i : ℕ) → i < length ls
      → rowsb hi first from (drop i ls) ≡ standb hi first from (get_or ls i d) && rowsb hi false (end (get_or ls i d)) (drop (i + 1) ls)
  unfolding rowsb
  row_step first from i h =
      let e = drop-cons ls i d h in
      rw (add-one, e)

  pub row_again : (from i : ℕ) → i < length ls → standb hi (eqb i 0) from (get_or ls i d) ≡ true
      → rowsb hi (eqb i 0) from (drop i ls) ≡ rowsb hi (eqb (i + 1) 0) (end (get_or ls i d)) (drop (i + 1) ls)
  row_again from i h s =
      let z : eqb (i + 1) 0 ≡ false = ne_eqb (i + 1) 0 (λ q. omega arith) in
      row_step (eqb i 0) from i h ∙ rw (s, z)

  pub row_stop : (from i : ℕ) → i < length ls → standb hi (eqb i 0) from (get_or ls i d) ≡ false → rowsb hi (eqb i 0) from (drop i ls) ≡ false
  row_stop from i h s = row_step (eqb i 0) from i h ∙ rw s

pub row_end : (hi : ℕ) (ls : List LogicalPartition) (first : Bool) (from i : ℕ) → length ls ≤ i → rowsb hi first from (drop i ls) ≡ leb from hi
unfolding rowsb
row_end hi ls first from i h = rw (drop_of_length-le ls h)

-- no extended entry: no logical partitions
pub chain_none : (n : ℕ) (ls : List LogicalPartition) → n ≤ length ls → eqb n 0 ≡ chainb None (take n ls)
unfolding chainb
chain_none zero ls h = refl
chain_none (suc n) [] h = absurd (omega arith)
chain_none (suc n) (l ∷ ls) h = ne_eqb (suc n) 0 (λ q. omega arith)
