-- What the refusals of a lay-over lead to, and the new extract from its parts. Assumes nothing.
use mathlib.Core.Path.{◌≡◌, refl, sym, ap, subst, ◌∙◌}
use mathlib.Core.List.{List, ◌∷◌, ◌++◌, append_assoc}
use Rattle.std.specs.Prelude.{Some}
use Prim.Native.Nat.{ℕ, zero, suc, ◌+◌, ◌*◌, ◌-◌, ◌≤◌, ◌<◌}
use native.Mathlib.Omega.{arith}
use lib.Dec.{eqb, ltb}
use lib.ListN.{length, take, drop, length-append}
use borrow.Author.Tests.{lt-ltb, le-ltb, le-leb, lt-leb, eq-eqb, ne_eqb}
use Rattle.base.specs.Bytes.{Bytes, Record, bytes_of, little}
use Rattle.base.specs.Put.{put}
use Rattle.base.specs.Said.{Said, gives, refuses}
use Rattle.base.specs.Checks.{◌!◌, checked, first-fail}
use Rattle.base.proofs.Checks.{append-fails, append-holds}
use Rattle.extract.specs.Disk.{Store}
use Rattle.extract.specs.Extract.{sector_size_of, disk_sectors, count, records_from, records, extract_checks, Good}
use Rattle.extract.specs.Answers.{header_of}
use Rattle.extract.specs.declared.Extract.{Extract}
use Rattle.extract.proofs.Good.{word_below}
use Rattle.extract.proofs.Disk.{record-at}
use Rattle.extract_lay.specs.Layover.{lba_bytes, record_bytes, extract_bytes, new_records, new_extract, room_checks, lay_checks}
use Rattle.extract.specs.Header.{header_bytes}
use Rattle.extract_lay.specs.Answers.{room_says, room_leaves, lay_says, lay_leaves}
use Rattle.extract.specs.Cut.{from_to, many, lba_parts, record_parts, all_parts, Room}
use Rattle.extract.specs.Rules.{most_records}
use Rattle.extract_lay.specs.Cut.{cut, Laying}
use Rattle.extract_lay.proofs.Sorted.{Fit, over-fit}
use Rattle.extract_lay.proofs.Parts.{lbas-part, records-part, lba_bytes-append, record_bytes-append, length-records, length-extract}

-- the records of a good extract are words and records
fit-from : (x : List ℕ) → Good x → (i k : ℕ) → i + k ≤ count x → Fit (records_from x i k)
unfolding records_from
fit-from x g i zero h = tt
fit-from x g i (suc k) h = ((word_below x (24 + i * 4) g.bytes, record-at x g i (omega arith)), fit-from x g (i + 1) k (omega arith))

pub fit-records : (x : List ℕ) → Good x → Fit (records x)
fit-records x g = fit-from x g 0 (count x) (omega arith)

pub fit-new : (x : List ℕ) → Good x → (a : ℕ) (r : List ℕ) → a < 4294967296 → Record r → Fit (new_records x a r)
fit-new x g a r h k = over-fit (record { lba = a; bytes = r }) (records x) h k (fit-records x g)

-- the parts are the bytes of the records cut
length_cut : (x : List ℕ) (n p q : ℕ) (s : Store) → length (cut x n p q s) ≡ many n p q
length_cut x n p q s =
    length-append (records_from x 0 p) (s ∷ records_from x q (n - q)) ∙ omega (arith, length-records x 0 p, length-records x q (n - q))

cut-lbas : (x : List ℕ) → Bytes x → (n p q : ℕ) → Room x n p q → (s : Store) → lba_parts x n p q s.lba ≡ lba_bytes (cut x n p q s)
unfolding lba_bytes
cut-lbas x b n p q r s =
    let w = bytes_of little 4 s.lba in
    let e : 24 + p * 4 - 24 ≡ p * 4 = omega arith in
    let f : 24 + n * 4 - (24 + q * 4) ≡ (n - q) * 4 = omega arith in
    let g : from_to x 24 (24 + p * 4) ≡ lba_bytes (records_from x 0 p) = ap (λ k. take k (drop 24 x)) e ∙ sym (lbas-part x b 0 p (omega arith)) in
    let h : from_to x (24 + q * 4) (24 + n * 4) ≡ lba_bytes (records_from x q (n - q)) = ap (λ k. take k (drop (24 + q * 4) x)) f ∙ sym (lbas-part x b q (n - q) (omega arith)) in
    ap (λ l. l ++ w ++ from_to x (24 + q * 4) (24 + n * 4)) g
    ∙ ap (λ l. lba_bytes (records_from x 0 p) ++ w ++ l) h
    ∙ append_assoc (lba_bytes (records_from x 0 p)) w (lba_bytes (records_from x q (n - q)))
    ∙ sym (lba_bytes-append (records_from x 0 p) (s ∷ records_from x q (n - q)))

cut-records : (x : List ℕ) (n p q : ℕ) → n ≡ count x → Room x n p q → (s : Store) → record_parts x n p q s.bytes ≡ record_bytes (cut x n p q s)
unfolding record_bytes
cut-records x n p q c r s =
    let b = 24 + n * 4 in
    let e : b + p * 512 - b ≡ p * 512 = omega arith in
    let f : 24 + n * 516 - (b + q * 512) ≡ (n - q) * 512 = omega arith in
    let i : b ≡ 24 + count x * 4 + 0 * 512 = omega arith in
    let j : b + q * 512 ≡ 24 + count x * 4 + q * 512 = omega arith in
    let g : from_to x b (b + p * 512) ≡ record_bytes (records_from x 0 p) =
    ap (λ k. take k (drop b x)) e ∙ ap (λ k. take (p * 512) (drop k x)) i ∙ sym (records-part x 0 p) in
    let h : from_to x (b + q * 512) (24 + n * 516) ≡ record_bytes (records_from x q (n - q)) =
    ap (λ k. take k (drop (b + q * 512) x)) f ∙ ap (λ k. take ((n - q) * 512) (drop k x)) j ∙ sym (records-part x q (n - q)) in
    ap (λ l. l ++ s.bytes ++ from_to x (b + q * 512) (24 + n * 516)) g
    ∙ ap (λ l. record_bytes (records_from x 0 p) ++ s.bytes ++ l) h
    ∙ append_assoc (record_bytes (records_from x 0 p)) s.bytes (record_bytes (records_from x q (n - q)))
    ∙ sym (record_bytes-append (records_from x 0 p) (s ∷ records_from x q (n - q)))

-- the new extract is made of these parts
cut-extract : (x : List ℕ) (a : ℕ) (r : List ℕ) (p q : ℕ) → Bytes x → Room x (count x) p q → new_records x a r ≡ cut x (count x) p q (record { lba = a; bytes = r })
    → all_parts x (header_of x) p q a r ≡ new_extract x a r
unfolding new_extract extract_bytes
cut-extract x a r p q b m e =
    let s : Store = record { lba = a; bytes = r } in
    let n = count x in
    let t = header_bytes (sector_size_of x) (disk_sectors x) in
    let h = ap t (sym (length_cut x n p q s)) in
    ap (λ l. l ++ lba_parts x n p q a ++ record_parts x n p q r) h
    ∙ ap (λ l. t (length (cut x n p q s)) ++ l ++ record_parts x n p q r) (cut-lbas x b n p q m s)
    ∙ ap (λ l. t (length (cut x n p q s)) ++ lba_bytes (cut x n p q s) ++ l) (cut-records x n p q refl m s)
    ∙ ap (λ ss. t (length ss) ++ lba_bytes ss ++ record_bytes ss) (sym e)

module _ (x : List ℕ) (e : Extract) (p q a : ℕ) (r : List ℕ) (l : Laying x e p q a r) where
  pub laid-parts : all_parts x e p q a r ≡ new_extract x a r
  laid-parts =
      subst
      (λ f. Room x f.count p q → new_records x a r ≡ cut x f.count p q (record { lba = a; bytes = r }) → all_parts x f p q a r ≡ new_extract x a r)
      (sym l.header) (cut-extract x a r p q l.good.bytes) l.room l.cuts

  pub laid-many : length (new_records x a r) ≡ many e.count p q
  laid-many = ap length l.cuts ∙ length_cut x e.count p q (record { lba = a; bytes = r })

  pub laid-length : length (new_extract x a r) ≡ 24 + many e.count p q * 516
  unfolding new_extract
  laid-length =
      length-extract (sector_size_of x) (disk_sectors x) (new_records x a r) (fit-new x l.good a r l.word l.fit) ∙ ap (λ n. 24 + n * 516) laid-many

  -- the refusals of room
  module _ {A : Type 0} (room : ℕ) (deny : ℕ → A) (grant : A) where
    pub room-many : most_records < many e.count p q → checked (room_checks x a r room) deny grant ≡ deny 22
    unfolding room_checks
    room-many h = rw (laid-many, lt-leb (many e.count p q) most_records h)

    pub room-short : many e.count p q ≤ most_records → room < 24 + many e.count p q * 516 → checked (room_checks x a r room) deny grant ≡ deny 19
    unfolding room_checks
    room-short h k = rw (laid-many, laid-length, le-leb (many e.count p q) most_records h, lt-leb (24 + many e.count p q * 516) room k)

    pub room-fine : many e.count p q ≤ most_records → 24 + many e.count p q * 516 ≤ room → checked (room_checks x a r room) deny grant ≡ grant
    unfolding room_checks
    room-fine h k = rw (laid-many, laid-length, le-leb (many e.count p q) most_records h, le-leb (24 + many e.count p q * 516) room k)

  -- with room: the length, and the parts written
  pub room-said : (o : List ℕ) → many e.count p q ≤ most_records → 24 + many e.count p q * 516 ≤ length o → gives (24 + many e.count p q * 516) ≡ room_says x a r (length o)
  room-said o h k = ap gives (sym laid-length) ∙ sym (room-fine (length o) refuses (gives (length (new_extract x a r))) h k)

  pub room-left : (o d : List ℕ) → many e.count p q ≤ most_records → 24 + many e.count p q * 516 ≤ length o → d ≡ put o 0 (all_parts x e p q a r) → d ≡ room_leaves x a r o
  room-left o d h k f = f ∙ ap (put o 0) laid-parts ∙ sym (room-fine (length o) (λ n. o) (put o 0 (new_extract x a r)) h k)

-- the refusals before
module _ {A : Type 0} (x : List ℕ) (a : ℕ) (r : List ℕ) (room : ℕ) (deny : ℕ → A) (grant : A) where
  pub lay-bad : (k : ℕ) → first-fail (extract_checks x) ≡ Some k → checked (lay_checks x a r room) deny grant ≡ deny k
  unfolding lay_checks
  lay-bad k e = append-fails (extract_checks x) ((1 ! eqb (length r) 512) ∷ (2 ! ltb a (disk_sectors x)) ∷ room_checks x a r room) k deny grant e

  lay-good : Good x → checked (lay_checks x a r room) deny grant ≡ checked ((1 ! eqb (length r) 512) ∷ (2 ! ltb a (disk_sectors x)) ∷ room_checks x a r room) deny grant
  unfolding lay_checks
  lay-good g = append-holds (extract_checks x) ((1 ! eqb (length r) 512) ∷ (2 ! ltb a (disk_sectors x)) ∷ room_checks x a r room) deny grant g.rules

  pub lay-record : Good x → (length r ≡ 512 → ⊥) → checked (lay_checks x a r room) deny grant ≡ deny 1
  lay-record g h = lay-good g ∙ rw (ne_eqb (length r) 512 h)

  pub lay-past : Good x → length r ≡ 512 → disk_sectors x ≤ a → checked (lay_checks x a r room) deny grant ≡ deny 2
  lay-past g h k = lay-good g ∙ rw (eq-eqb (length r) 512 h, le-ltb a (disk_sectors x) k)

  pub lay-on : Good x → length r ≡ 512 → a < disk_sectors x → checked (lay_checks x a r room) deny grant ≡ checked (room_checks x a r room) deny grant
  lay-on g h k = lay-good g ∙ rw (eq-eqb (length r) 512 h, lt-ltb a (disk_sectors x) k)

-- past the first refusals, those of room decide
module _ (x : List ℕ) (a : ℕ) (r o : List ℕ) (g : Good x) (h : length r ≡ 512) (k : a < disk_sectors x) where
  pub on-said : (v : Said ℕ) → v ≡ room_says x a r (length o) → v ≡ lay_says x a r (length o)
  unfolding lay_says
  on-said v e = e ∙ sym (lay-on x a r (length o) refuses (gives (length (new_extract x a r))) g h k)

  pub on-left : (d : List ℕ) → d ≡ room_leaves x a r o → d ≡ lay_leaves x a r o
  unfolding lay_leaves
  on-left d e = e ∙ sym (lay-on x a r (length o) (λ n. o) (put o 0 (new_extract x a r)) g h k)
