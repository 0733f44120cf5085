-- The plan of the new extract, and the records that it stands for. Assumes nothing.
use mathlib.Core.Path.{◌≡◌, refl, sym, ap, subst, ◌∙◌}
use mathlib.Core.List.{List, [], ◌∷◌, ◌++◌, map}
use mathlib.Core.Bool.{Bool, true, false}
use Rattle.std.specs.Prelude.{Option, None, Some}
use mathlib.Core.Logic.{inl, inr}
use Prim.Native.Nat.{ℕ, zero, suc, ◌+◌, ◌*◌, ◌-◌, ◌≤◌, ◌<◌}
use native.Mathlib.Numerals.{add-one}
use native.Mathlib.Nat.{add-zero}
use native.Mathlib.Omega.{arith}
use lib.Dec.{eqb, ltb}
use lib.ListN.{length, take, drop, get_or, length-append, length-map, length-take, length-drop, drop_of_length-le}
use lib.Seq.{drop-cons, drop-length}
use borrow.Author.Tests.{lt-ltb, le-ltb}
use Rattle.base.specs.Pick.{pick}
use Rattle.base.specs.Put.{put}
use Rattle.base.specs.Row.{next}
use Rattle.base.specs.All.{All}
use Rattle.record_ebr.proofs.Laws.{ebr-long}
use Rattle.record_entry.specs.declared.MBRPartitionEntry.{MBRPartitionEntry}
use Rattle.record_ebr.specs.Ebr.{no_mark, ebr_bytes, kept_at}
use Rattle.record_ebr.specs.declared.Kept.{Kept}
use Rattle.record_entry.specs.Entry.{no_entry}
use Rattle.extract.specs.Disk.{Store}
use Rattle.extract.specs.Extract.{count, records, record_at, records_from, sector_size_of, disk_sectors, Good}
use Rattle.extract.specs.Rules.{most_records}
use Rattle.extract.proofs.Disk.{record-at}
use Rattle.extract.proofs.Good.{good-few, good-long}
use Rattle.extract_lay.specs.Layover.{laid_over, header_bytes, lba_bytes, record_bytes, extract_bytes}
use Rattle.extract_lay.proofs.Parts.{length-header}
use Rattle.extract_lay.specs.declared.plan.Slot.{Slot}
use Rattle.extract_lay.specs.Plan.{no_slot, slots_from, slot_over, slots_over, store_of, pieces, slot_lba}
use Rattle.extract_lay.proofs.plan.Laws.{over-map, old-map, lbas-map, records-map, length-pieces, lbas-wide, Wide, all-each, each_at}
use Rattle.table.specs.declared.LogicalPartition.{LogicalPartition}
use Rattle.table.specs.Table.{no_logical, most}
use Rattle.block.specs.Block.{part, slot_of, slot_at, tag_at, table_in, block_length, Passed}
use Rattle.block.proofs.Inside.{slot-in}
use Rattle.write_rules.specs.AsWritten.{as_written_in}
use Rattle.write_rules.proofs.as_written.Laws.{settled-long, held-long, held_kept}
use Rattle.chain.specs.Facts.{at, body_of, leads}
use Rattle.chain.specs.Links.{link_entry, ebr_for, ebr_with}
use Rattle.write_rules.specs.Records.{write_plain, ebr_stores, laid_all, extract_over}
use Rattle.write_rules.specs.Sources.{stored_at, bytes_from, ebr_slots, stores_of, slots_of, CodeLong, Valid, Writing, mbr_source, ebr_source}

-- slots laid over, and their records
pub all_map : (f : ℕ → List ℕ) (ss ts : List Slot) → map (store_of f) (slots_over ss ts) ≡ laid_all (map (store_of f) ss) (map (store_of f) ts)
unfolding slots_over laid_all
all_map f [] ts = refl
all_map f (s ∷ ss) ts = all_map f ss (slot_over s ts) ∙ ap (laid_all (map (store_of f) ss)) (over-map f s ts)

-- one more slot
pub slots-more : (k i : ℕ) (ls : List LogicalPartition) (ts : List Slot) → i < length ls
    → slots_over (ebr_slots (k + i) (drop i ls)) ts ≡ slots_over (ebr_slots (k + (i + 1)) (drop (i + 1) ls)) (slot_over (record { lba = at (get_or ls i no_logical); source = k + i }) ts)
unfolding slots_over ebr_slots
slots-more k i ls ts h =
    let e : k + i + 1 ≡ k + (i + 1) = omega arith in
    rw (drop-cons ls i no_logical h, e, add-one i)

pub slots_end : (k i : ℕ) (ls : List LogicalPartition) (ts : List Slot) → i ≡ length ls → slots_over (ebr_slots (k + i) (drop i ls)) ts ≡ ts
unfolding slots_over ebr_slots
slots_end k i ls ts e = rw (e, drop-length ls)

-- the EBR with the link to what follows
pub ebr-written : (e : MBRPartitionEntry) (l : LogicalPartition) (n : Option LogicalPartition) (k : MBRPartitionEntry) → k ≡ link_entry e.sys (leads e.starting_lba n)
    → ebr_bytes no_mark (ebr_with l k) ≡ (write_plain e l n).bytes
unfolding write_plain ebr_for body_of
ebr-written e l n k p = ap (λ (j : MBRPartitionEntry). ebr_bytes no_mark (ebr_with l j)) p

abbrev pub Long : Store → Type 0
Long s = length s.bytes ≡ 512

laid-long : (s : Store) (ts : List Store) → Long s → All Long ts → All Long (laid_over s ts)
unfolding laid_over
laid-long s [] p h = (p, tt)
laid-long s (t ∷ ts) p h = go (laid-long s ts p h.1) (ltb s.lba t.lba) (eqb s.lba t.lba)
  where
    go : All Long (laid_over s ts) → (b c : Bool) → All Long (pick b (s ∷ t ∷ ts) (pick c (s ∷ ts) (t ∷ laid_over s ts)))
    go ih true c = (p, h)
    go ih false true = (p, h.1)
    go ih false false = (h.0, ih)

all-long : (ss ts : List Store) → All Long ss → All Long ts → All Long (laid_all ss ts)
unfolding laid_all
all-long [] ts h k = k
all-long (s ∷ ss) ts h k = all-long ss (laid_over s ts) h.1 (laid-long s ts h.0 k)

records-long : (x : List ℕ) → Good x → (i k : ℕ) → i + k ≤ count x → All Long (records_from x i k)
unfolding records_from
records-long x g i zero h = tt
records-long x g i (suc k) h = ((record-at x g i (omega arith)).long, records-long x g (i + 1) k (omega arith))

stores-long : (e : MBRPartitionEntry) (ls : List LogicalPartition) → All CodeLong ls → All Long (ebr_stores e ls)
unfolding ebr_stores write_plain ebr_for body_of
stores-long e [] h = tt
stores-long e (l ∷ ls) h = (ebr-long no_mark (ebr_for e l (next ls None)) refl h.0, stores-long e ls h.1)

-- the store of a number
pub store_at : (e : MBRPartitionEntry) (ls : List LogicalPartition) (i : ℕ) → i < length ls
    → stored_at (ebr_stores e ls) i ≡ (write_plain e (get_or ls i no_logical) (next (drop (i + 1) ls) None)).bytes
unfolding stored_at ebr_stores
store_at e [] i h = absurd (omega arith)
store_at e (l ∷ ls) zero h = refl
store_at e (l ∷ ls) (suc i) h =
    let z : suc i + 1 ≡ suc (i + 1) = omega arith in
    store_at e ls i (omega arith) ∙ ap (λ k. (write_plain e (get_or ls i no_logical) (next (drop k (l ∷ ls)) None)).bytes) (sym z)

places-map : (f : ℕ → List ℕ) (e : MBRPartitionEntry) (k : ℕ) (ls : List LogicalPartition) → ((i : ℕ) → i < length ls → f (k + i) ≡ stored_at (ebr_stores e ls) i)
    → map (store_of f) (ebr_slots k ls) ≡ ebr_stores e ls
unfolding ebr_slots ebr_stores stored_at write_plain
places-map f e k [] h = refl
places-map f e k (l ∷ ls) h =
    let z : f k ≡ ebr_bytes no_mark (ebr_for e l (next ls None)) = ap f (sym (add-zero k)) ∙ h 0 (omega arith) in
    ap (λ r. record { lba = at l; bytes = r } ∷ map (store_of f) (ebr_slots (k + 1) ls)) z
    ∙ ap (◌∷◌ (write_plain e l (next ls None))) (places-map f e (k + 1) ls (λ i p. ap f (shift k i) ∙ h (suc i) (omega arith)))
  where
    shift : (k i : ℕ) → k + 1 + i ≡ k + suc i
    shift k i = omega arith

-- the bytes of each source
pub from_old : (x : List ℕ) (ss : List Store) (k : ℕ) → k < mbr_source → bytes_from x ss k ≡ record_at x k
unfolding bytes_from
from_old x ss k h = rw (lt-ltb k mbr_source h)

pub from_first : (x : List ℕ) (s : Store) (ss : List Store) → bytes_from x (s ∷ ss) mbr_source ≡ s.bytes
unfolding bytes_from stored_at
from_first x s ss = refl

pub from-ebr : (x : List ℕ) (s : Store) (ss : List Store) (k i : ℕ) → k ≡ ebr_source + i → bytes_from x (s ∷ ss) k ≡ stored_at ss i
unfolding bytes_from stored_at
from-ebr x s ss k i e =
    let z : k - mbr_source ≡ suc i = omega arith in
    rw (le-ltb k mbr_source (omega arith), z)

-- the plan stands for the new records
module _ (x : List ℕ) (n m : ℕ) (first : List ℕ) (ls : List LogicalPartition) (e : MBRPartitionEntry) (w : Writing x n m first) (c : All CodeLong ls) where
  abbrev ss : List Store
  ss = stores_of first e ls

  abbrev f : ℕ → List ℕ
  f = bytes_from x ss

  pub plan-records : map (store_of f) (slots_of x ls) ≡ laid_all ss (records x)
  plan-records =
      let few = good-few x w.good in
      let q = places-map f e ebr_source ls (λ i p. from-ebr x (record { lba = 0; bytes = first }) (ebr_stores e ls) (ebr_source + i) i refl) in
      let r = old-map f x 0 (count x) (λ j p. from_old x ss j (omega arith)) in
      all_map f (record { lba = 0; source = mbr_source } ∷ ebr_slots ebr_source ls) (slots_from x 0 (count x))
      ∙ ap (λ (l : List Store). laid_all (record { lba = 0; bytes = f mbr_source } ∷ l) (map (store_of f) (slots_from x 0 (count x)))) q
      ∙ ap (λ (b : List ℕ). laid_all (record { lba = 0; bytes = b } ∷ ebr_stores e ls) (map (store_of f) (slots_from x 0 (count x)))) (from_first x (record { lba = 0; bytes = first }) (ebr_stores e ls))
      ∙ ap (laid_all ss) r

  pub plan-wide : Wide (λ s. f s.source) 512 (slots_of x ls)
  plan-wide = down (slots_of x ls) (subst (All Long) (sym plan-records) (all-long ss (records x) (w.long, stores-long e ls c) (records-long x w.good 0 (count x) (omega arith))))
    where
      down : (ts : List Slot) → All Long (map (store_of f) ts) → Wide (λ s. f s.source) 512 ts
      down [] h = tt
      down (s ∷ ts) h = (h.0, down ts h.1)

  -- each source is there
  plan-valid : length ls ≡ m → All (λ s. Valid n m s.source) (slots_of x ls)
  unfolding slots_from ebr_slots
  plan-valid l =
      all-each (λ s. Valid n m s.source) (record { lba = 0; source = mbr_source } ∷ ebr_slots ebr_source ls) (slots_from x 0 (count x))
      (inr (omega arith, omega arith), places ebr_source ls (omega arith) (omega arith)) (olds 0 (count x) (omega (arith, w.number)))
    where
      places : (k : ℕ) (ls : List LogicalPartition) → mbr_source ≤ k → k + length ls ≤ ebr_source + m → All (λ s. Valid n m s.source) (ebr_slots k ls)
      places k [] p q = tt
      places k (a ∷ ls) p q = (inr (p, omega arith), places (k + 1) ls (omega arith) (omega arith))

      olds : (i k : ℕ) → i + k ≤ n → All (λ s. Valid n m s.source) (slots_from x i k)
      olds i zero p = tt
      olds i (suc k) p = (inl (omega arith), olds (i + 1) k (omega arith))

  pub source-valid : length ls ≡ m → (i : ℕ) → i < length (slots_of x ls) → Valid n m (get_or (slots_of x ls) i no_slot).source
  source-valid l i h = each_at (λ s. Valid n m s.source) (slots_of x ls) i no_slot h (plan-valid l)

  -- the new extract from its parts
  pub extract-parts : extract_over x ss ≡ header_bytes (sector_size_of x) (disk_sectors x) (length (slots_of x ls)) ++ pieces slot_lba (slots_of x ls) ++ pieces (λ s. f s.source) (slots_of x ls)
  unfolding extract_over extract_bytes
  extract-parts =
      let l = slots_of x ls in
      ap (λ (r : List Store). extract_bytes (sector_size_of x) (disk_sectors x) r) (sym plan-records)
      ∙ ap (λ k. header_bytes (sector_size_of x) (disk_sectors x) k ++ lba_bytes (map (store_of f) l) ++ record_bytes (map (store_of f) l)) (length-map l (store_of f))
      ∙ ap (λ k. header_bytes (sector_size_of x) (disk_sectors x) (length l) ++ k ++ record_bytes (map (store_of f) l)) (lbas-map f l)
      ∙ ap (λ k. header_bytes (sector_size_of x) (disk_sectors x) (length l) ++ pieces slot_lba l ++ k) (records-map f l)

  pub extract-count : length (laid_all ss (records x)) ≡ length (slots_of x ls)
  extract-count = ap length (sym plan-records) ∙ length-map (slots_of x ls) (store_of f)

  pub extract-long : length (extract_over x ss) ≡ 24 + length (slots_of x ls) * 516
  extract-long =
      let l = slots_of x ls in
      let h = header_bytes (sector_size_of x) (disk_sectors x) (length l) in
      ap length extract-parts
      ∙ length-append (h ++ pieces slot_lba l) (pieces (λ s. f s.source) l)
      ∙ omega (arith, length-append h (pieces slot_lba l), length-header (sector_size_of x) (disk_sectors x) (length l), length-pieces slot_lba 4 l (lbas-wide l), length-pieces (λ s. f s.source) 512 l plan-wide)

-- the code of each logical partition of a block
each-by : (l : List LogicalPartition) → ((i : ℕ) → i < length l → CodeLong (get_or l i no_logical)) → All CodeLong l
each-by [] f = tt
each-by (a ∷ l) f = (f 0 (omega arith), each-by l (λ i h. f (suc i) (omega arith)))

slot-code : (b : List ℕ) (i : ℕ) → length b ≡ block_length → i < most → CodeLong (slot_of (tag_at b i) (slot_at b i))
unfolding part kept_at
slot-code b i h k = simp (length-take, length-drop) (omega arith)

pub codes-held : (b : List ℕ) (h : Passed b) (x : ℕ) → All CodeLong (as_written_in (table_in b) x)
codes-held b h x = each-by (as_written_in (table_in b) x) one
  where
    one : (i : ℕ) → i < length (as_written_in (table_in b) x) → CodeLong (get_or (as_written_in (table_in b) x) i no_logical)
    one i k =
        let j : i < (table_in b).count = omega (arith, settled-long (table_in b) x (held-long b h)) in
        let n : i < most = omega (arith, h.few) in
        ap (λ (k : Kept). length k.bootstrap_code) (held_kept b h x i j ∙ ap (λ (l : LogicalPartition). l.kept) (slot-in b i n)) ∙ slot-code b i h.long n

-- the plan's beginning, and a turn of its loop
pub plan-start : (x : List ℕ) (ls : List LogicalPartition) (n : ℕ) (p q : List Slot) → n ≡ count x → p ≡ slots_from x 0 n → q ≡ slot_over (record { lba = 0; source = mbr_source }) p
    → slots_of x ls ≡ slots_over (ebr_slots (ebr_source + 0) (drop 0 ls)) q
unfolding slots_over
plan-start x ls n p q e f g =
    ap (λ (l : List Slot). slots_over (ebr_slots ebr_source ls) (slot_over (record { lba = 0; source = mbr_source }) l)) (ap (slots_from x 0) (sym e) ∙ sym f)
    ∙ ap (slots_over (ebr_slots ebr_source ls)) (sym g)

pub plan-turn : (ls : List LogicalPartition) (i b a : ℕ) (p q : List Slot) → i < length ls → at (get_or ls i no_logical) ≡ b → a ≡ b → q ≡ slot_over (record { lba = a; source = ebr_source + i }) p
    → slots_over (ebr_slots (ebr_source + i) (drop i ls)) p ≡ slots_over (ebr_slots (ebr_source + (i + 1)) (drop (i + 1) ls)) q
plan-turn ls i b a p q h e f g =
    slots-more ebr_source i ls p h
    ∙ ap (λ (k : ℕ). slots_over (ebr_slots (ebr_source + (i + 1)) (drop (i + 1) ls)) (slot_over (record { lba = k; source = ebr_source + i }) p)) (e ∙ sym f)
    ∙ ap (slots_over (ebr_slots (ebr_source + (i + 1)) (drop (i + 1) ls))) (sym g)

-- the link to what stands at number i
pub link-none : (e : MBRPartitionEntry) (ls : List LogicalPartition) (i : ℕ) → length ls ≤ i → no_entry ≡ link_entry e.sys (leads e.starting_lba (next (drop i ls) None))
unfolding link_entry
link-none e ls i h = rw (drop_of_length-le ls h)

pub link-some : (e : MBRPartitionEntry) (ls : List LogicalPartition) (i : ℕ) (f : LogicalPartition) → i < length ls → get_or ls i no_logical ≡ f
    → link_entry e.sys (leads e.starting_lba (Some f)) ≡ link_entry e.sys (leads e.starting_lba (next (drop i ls) None))
link-some e ls i f h p = rw (drop-cons ls i no_logical h, p)

-- a source below that of record 0 is an old record, and one above it an EBR
pub old-source : (x : List ℕ) (n m k : ℕ) (first : List ℕ) → Writing x n m first → Valid n m k → k < mbr_source → (k < n) × (n ≤ most_records) × (length x ≡ 24 + n * 516)
old-source x n m k first w (inl h) l =
    let f = good-few x w.good in
    let g = good-long x w.good in
    (h, omega (arith, w.number), omega (arith, w.number))
old-source x n m k first w (inr h) l = absurd (omega arith)

pub first-source : (x : List ℕ) (n k : ℕ) (first : List ℕ) → Writing x n 0 first → Valid n 0 k → mbr_source ≤ k → k ≡ mbr_source
first-source x n k first w (inl h) l = absurd (omega (arith, good-few x w.good, w.number))
first-source x n k first w (inr h) l = omega arith

pub kept-source : (n m k : ℕ) → Valid n m k → k < ebr_source → Valid n 0 k
kept-source n m k (inl h) l = inl h
kept-source n m k (inr h) l = inr (h.0, l)

pub ebr-source : (x : List ℕ) (n m k : ℕ) (first : List ℕ) → Writing x n m first → Valid n m k → ebr_source ≤ k → k - ebr_source < m
ebr-source x n m k first w (inl h) l = absurd (omega (arith, good-few x w.good, w.number))
ebr-source x n m k first w (inr h) l = omega arith

pub put-old : (x out : List ℕ) (ss : List Store) (at n k : ℕ) → n ≡ count x → k < mbr_source
    → put out at (take (24 + n * 4 + k * 512 + 512 - (24 + n * 4 + k * 512)) (drop (24 + n * 4 + k * 512) x)) ≡ put out at (bytes_from x ss k)
unfolding record_at
put-old x out ss at n k e h =
    let z : 24 + n * 4 + k * 512 + 512 - (24 + n * 4 + k * 512) ≡ 512 = omega arith in
    ap (put out at) (ap (λ j. take j (drop (24 + n * 4 + k * 512) x)) z ∙ ap (λ j. take 512 (drop (24 + j * 4 + k * 512) x)) e ∙ sym (from_old x ss k h))

pub put_first : (x out : List ℕ) (first : List ℕ) (ss : List Store) (at k : ℕ) → k ≡ mbr_source → put out at first ≡ put out at (bytes_from x (record { lba = 0; bytes = first } ∷ ss) k)
put_first x out first ss at k e =
    ap (put out at) (sym (from_first x (record { lba = 0; bytes = first }) ss)) ∙ ap (λ j. put out at (bytes_from x (record { lba = 0; bytes = first } ∷ ss) j)) (sym e)

-- the bytes of a source that is no EBR, and of one that is
pub kept-bytes : (x : List ℕ) (s : Store) (ss : List Store) (k : ℕ) → k < ebr_source → bytes_from x (s ∷ []) k ≡ bytes_from x (s ∷ ss) k
unfolding bytes_from stored_at
kept-bytes x s ss k h = let z : k - mbr_source ≡ 0 = omega arith in rw z

pub ebr-bytes : (x : List ℕ) (s : Store) (e : MBRPartitionEntry) (ls : List LogicalPartition) (k : ℕ) (l : LogicalPartition) (link : MBRPartitionEntry) → ebr_source ≤ k → k - ebr_source < length ls
    → get_or ls (k - ebr_source) no_logical ≡ l → link ≡ link_entry e.sys (leads e.starting_lba (next (drop (k - ebr_source + 1) ls) None)) → ebr_bytes no_mark (ebr_with l link) ≡ bytes_from x (s ∷ ebr_stores e ls) k
ebr-bytes x s e ls k l link h i p q =
    let z : k ≡ ebr_source + (k - ebr_source) = omega arith in
    let n = next (drop (k - ebr_source + 1) ls) None in
    ebr-written e l n link q
    ∙ ap (λ (a : LogicalPartition). (write_plain e a n).bytes) (sym p)
    ∙ sym (from-ebr x s (ebr_stores e ls) k (k - ebr_source) z ∙ store_at e ls (k - ebr_source) i)

pub valid-at : (x : List ℕ) (n m : ℕ) (first : List ℕ) (ls : List LogicalPartition) (e : MBRPartitionEntry) → Writing x n m first → All CodeLong ls → length ls ≡ m
    → (l : List Slot) → l ≡ slots_of x ls → (i : ℕ) → i < length l → (s : Slot) → get_or l i no_slot ≡ s → Valid n m s.source
valid-at x n m first ls e w c k l p i h s q =
    subst (λ (a : Slot). Valid n m a.source) (ap (λ (a : List Slot). get_or a i no_slot) (sym p) ∙ q)
    (source-valid x n m first ls e w c k i (subst (λ (a : List Slot). i < length a) p h))
