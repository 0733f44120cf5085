-- The loop that puts the slots of a block as writing leaves them. Assumes nothing.
use mathlib.Core.Path.{◌≡◌, sym, ap, subst, ◌∙◌}
use mathlib.Core.List.{List, [], ◌∷◌, ◌++◌}
use Rattle.std.specs.Prelude.{None}
use Prim.Native.Nat.{ℕ, zero, suc, ◌+◌, ◌*◌, ◌≤◌, ◌<◌}
use native.Mathlib.Numerals.{add-one}
use native.Mathlib.Omega.{arith}
use lib.ListN.{length, take, get_or}
use lib.Seq.{take-suc, take_all, length-take-le}
use Rattle.base.specs.Put.{put}
use Rattle.base.specs.Bytes.{number, little}
use Rattle.base.specs.Checks.{first-fail}
use Rattle.base.proofs.Put.{length-put}
use Rattle.table.specs.declared.LogicalPartition.{LogicalPartition}
use Rattle.table.specs.Table.{no_logical, logicals, most}
use Rattle.table_address.specs.declared.Geometry.{Geometry}
use Rattle.table_push.specs.Push.{geometry_of}
use Rattle.block.specs.Block.{slots_part, tags_part, tag_at, slot_put, slots_put, table_in, slot_length, slots_offset, tags_offset, block_length, Passed}
use Rattle.block.specs.Fits.{SlotFits, SlotsFit}
use Rattle.block.proofs.Inside.{cylinders-in, heads-in, sectors-in, slot-in}
use Rattle.block.proofs.Laws.{length-slot, length-tags}
use Rattle.block.proofs.Slots.{slots-start, slots-turn}
use Rattle.block.proofs.Back.{length-slots}
use Rattle.write_rules.specs.AsWritten.{at_start, first_at_start, by_geometry, slot_geometry, slots_geometry, as_written_in}
use Rattle.write_rules.proofs.as_written.Laws.{settled_at, settled-long, held-long, held_in, held_at, held_none}
use Rattle.block.proofs.Over.{Alike, bytes-alike, put-before, put-behind}
use Rattle.block_slot.proofs.changes.Alike.{slot-alike, count-alike, logical-like}
use Rattle.block_slot.proofs.changes.Slots.{slots-good}

-- lists alike at i stay so with the first one in its place
first-like : (X i : ℕ) (ls ms : List LogicalPartition) → i < length ls → i < length ms → get_or ls i no_logical ≡ get_or ms i no_logical
    → get_or (first_at_start X ls) i no_logical ≡ get_or (first_at_start X ms) i no_logical
unfolding first_at_start
first-like X i [] ms h k e = absurd (omega arith)
first-like X i (l ∷ ls) [] h k e = absurd (omega arith)
first-like X zero (l ∷ ls) (m ∷ ms) h k e = ap (at_start X) e
first-like X (suc i) (l ∷ ls) (m ∷ ms) h k e = e

-- one slot more fits
fits_snoc : (ls : List LogicalPartition) (l : LogicalPartition) → SlotsFit ls → SlotFits l → SlotsFit (ls ++ (l ∷ []))
fits_snoc [] l s f = (f, tt)
fits_snoc (x ∷ ls) l s f = (s.0, fits_snoc ls l s.1 f)

-- no slot yet
pub leave-start : (b : List ℕ) (ls : List LogicalPartition) → b ≡ slots_put b (take 0 ls)
leave-start b ls = sym (slots-start b)

-- the first i slots are put
module _ (d b : List ℕ) (x i : ℕ) (h : Passed d) (k : i < (table_in d).count) (s : SlotsFit (take i (as_written_in (table_in d) x))) (e : b ≡ slots_put d (take i (as_written_in (table_in d) x))) where
  abbrev ls : List LogicalPartition
  ls = as_written_in (table_in d) x

  abbrev xs : List ℕ
  xs = slots_part (take i ls)

  abbrev ts : List ℕ
  ts = tags_part (take i ls)

  abbrev a : List ℕ
  a = put d slots_offset xs

  many : length ls ≡ (table_in d).count
  many = settled-long (table_in d) x (held-long d h)

  first : length (take i ls) ≡ i
  first = length-take-le i ls (omega (arith, many, k))

  wide : length xs ≡ slot_length * i
  wide = length-slots (take i ls) s ∙ ap (λ (n : ℕ). slot_length * n) first

  tags : length ts ≡ i
  tags = length-tags (take i ls) ∙ first

  room : slots_offset + length xs ≤ length d
  room = omega (arith, h.long, h.few, k, wide)

  half : length a ≡ length d
  half = length-put d slots_offset xs room

  rest : tags_offset + length ts ≤ length a
  rest = omega (arith, h.long, h.few, k, tags, half)

  put-so : b ≡ put a tags_offset ts
  unfolding slots_put
  put-so = e

  long : length b ≡ block_length
  long = ap length put-so ∙ length-put a tags_offset ts rest ∙ half ∙ h.long

  before : (o n : ℕ) → o + n ≤ slots_offset → Alike b d o n
  before o n u j v w =
      ap (λ (z : List ℕ). get_or z j 0) put-so ∙ put-before a tags_offset ts rest o n (omega (arith, u)) j v w ∙ put-before d slots_offset xs room o n u j v w

  counted : (table_in b).count ≡ (table_in d).count
  counted = count-alike b d long h.long (before 12 4 (omega arith))

  pub turn-held : Passed b
  unfolding slots_put
  turn-held = subst Passed (sym e) (slots-good d (take i ls) 0 h s (omega (arith, first, h.few, k)))

  pub turn_in : i < (table_in b).count
  turn_in = omega (arith, counted, k)

  -- its slot and its geometry are as before
  slot_same : get_or (table_in b).logical_partitions i no_logical ≡ get_or (table_in d).logical_partitions i no_logical
  slot_same =
      let u : i < most = omega (arith, h.few, k) in
      let f : Alike b d (slots_offset + slot_length * i) slot_length =
      λ j v w.
      ap (λ (z : List ℕ). get_or z j 0) put-so ∙ put-before a tags_offset ts rest (slots_offset + slot_length * i) slot_length (omega (arith, u)) j v w
      ∙ put-behind d slots_offset xs room (slots_offset + slot_length * i) slot_length (omega (arith, wide)) j v w in
      let t : tag_at b i ≡ tag_at d i =
      ap (λ (z : List ℕ). get_or z (tags_offset + i) 0) put-so
      ∙ put-behind a tags_offset ts rest (tags_offset + i) 1 (omega (arith, tags)) (tags_offset + i) (omega arith) (omega arith)
      ∙ put-behind d slots_offset xs room (tags_offset + i) 1 (omega (arith, u, wide)) (tags_offset + i) (omega arith) (omega arith) in
      slot-in b i u ∙ logical-like t (slot-alike b d long h.long i u f) ∙ sym (slot-in d i u)

  geometry-same : geometry_of (table_in b) ≡ geometry_of (table_in d)
  geometry-same =
      let cy : (table_in b).cylinders ≡ (table_in d).cylinders = cylinders-in b ∙ ap (number little) (bytes-alike b d 16 2 (before 16 2 (omega arith))) ∙ sym (cylinders-in d) in
      let hd : (table_in b).heads ≡ (table_in d).heads = heads-in b ∙ before 18 1 (omega arith) 18 (omega arith) (omega arith) ∙ sym (heads-in d) in
      let sc : (table_in b).sectors ≡ (table_in d).sectors = sectors-in b ∙ before 19 1 (omega arith) 19 (omega arith) (omega arith) ∙ sym (sectors-in d) in
      λ j. record { cylinders = cy j; heads = hd j; sectors = sc j }

  first-same : get_or (first_at_start x (logicals (table_in b))) i no_logical ≡ get_or (first_at_start x (logicals (table_in d))) i no_logical
  first-same =
      first-like x i (logicals (table_in b)) (logicals (table_in d)) (held_in b turn-held x i turn_in) (held_in d h x i k)
      (held_at b turn-held x i turn_in ∙ slot_same ∙ sym (held_at d h x i k))

  -- so it is not refused, and writing leaves the same of it
  pub turn-none : first-fail (slots_geometry (table_in d) x) ≡ None → first-fail (slot_geometry (geometry_of (table_in b)) (get_or (first_at_start x (logicals (table_in b))) i no_logical)) ≡ None
  turn-none g =
      ap (λ (q : Geometry). first-fail (slot_geometry q (get_or (first_at_start x (logicals (table_in b))) i no_logical))) geometry-same
      ∙ ap (λ (l : LogicalPartition). first-fail (slot_geometry (geometry_of (table_in d)) l)) first-same
      ∙ held_none d h x i k g

  pub turn-same : get_or (as_written_in (table_in b) x) i no_logical ≡ get_or ls i no_logical
  turn-same =
      settled_at (geometry_of (table_in b)) x i (logicals (table_in b)) (held_in b turn-held x i turn_in)
      ∙ ap (λ (q : Geometry). by_geometry q (get_or (first_at_start x (logicals (table_in b))) i no_logical)) geometry-same
      ∙ ap (by_geometry (geometry_of (table_in d))) first-same
      ∙ sym (settled_at (geometry_of (table_in d)) x i (logicals (table_in d)) (held_in d h x i k))

  -- one more
  more : take (i + 1) ls ≡ take i ls ++ (get_or ls i no_logical ∷ [])
  more = rw (add-one i) (take-suc ls i no_logical (omega (arith, many, k)))

  pub turn-put : (l : LogicalPartition) (c : List ℕ) → l ≡ get_or ls i no_logical → SlotFits l → c ≡ slot_put b i l
      → (c ≡ slots_put d (take (i + 1) ls)) × SlotsFit (take (i + 1) ls)
  turn-put l c p f q =
      let w : take i ls ++ (l ∷ []) ≡ take (i + 1) ls = ap (λ (m : LogicalPartition). take i ls ++ (m ∷ [])) p ∙ sym more in
      let t : slot_put (slots_put d (take i ls)) (length (take i ls)) l ≡ slots_put d (take i ls ++ (l ∷ [])) =
      slots-turn d (take i ls) l h.long (omega (arith, first, h.few, k)) (omega (arith, wide, first)) (length-slot l f.kept) in (
        q ∙ ap (λ (z : List ℕ). slot_put z i l) e ∙ ap (λ (n : ℕ). slot_put (slots_put d (take i ls)) n l) (sym first) ∙ t ∙ ap (slots_put d) w,
        subst SlotsFit w (fits_snoc (take i ls) l s f),
      )

-- all are put
pub leave-end : (d b : List ℕ) (x i : ℕ) → Passed d → (table_in d).count ≤ i → SlotsFit (take i (as_written_in (table_in d) x)) → b ≡ slots_put d (take i (as_written_in (table_in d) x))
    → (b ≡ slots_put d (as_written_in (table_in d) x)) × SlotsFit (as_written_in (table_in d) x)
leave-end d b x i h k s e =
    let w : take i (as_written_in (table_in d) x) ≡ as_written_in (table_in d) x = take_all i (as_written_in (table_in d) x) (omega (arith, settled-long (table_in d) x (held-long d h), k)) in
    (e ∙ ap (slots_put d) w, subst SlotsFit w s)
