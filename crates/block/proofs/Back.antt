-- What is written as a block reads back equal, and passes the checks. Assumes nothing.
use mathlib.Core.Path.{◌≡◌, refl, sym, ap, ◌∙◌}
use mathlib.Core.List.{List, [], ◌∷◌, ◌++◌, append_assoc, append-nil}
use mathlib.Core.Bool.{true}
use Rattle.std.specs.Prelude.{None, Option, Some}
use Prim.Native.Nat.{ℕ, zero, suc, ◌+◌, ◌*◌, ◌≤◌, ◌<◌, ◌^◌}
use native.Mathlib.Nat.{add-zero, add_assoc}
use native.Mathlib.Omega.{arith}
use lib.ListN.{length, take, get_or, length-append}
use lib.Seq.{take_at, take-suc, take_all, get_or-append-add}
use borrow.Author.Tests.{le-leb, eq-eqb}
use Rattle.base.specs.Bytes.{bytes_at, number, bytes_of, little}
use Rattle.base.specs.Said.{gives, refuses}
use Rattle.base.specs.Checks.{answer, first-fail}
use Rattle.base.proofs.Bytes.{number-bytes_of, part-within}
use Rattle.base.proofs.Checks.{checked-none}
use Rattle.record_chs.specs.declared.CHS.{CHS}
use Rattle.record_entry.specs.declared.MBRPartitionEntry.{MBRPartitionEntry}
use Rattle.record_ebr.specs.declared.Kept.{Kept}
use Rattle.record_ebr.specs.Ebr.{mark_length, kept_at}
use Rattle.record_mbr.specs.declared.MBRHeader.{MBRHeader}
use Rattle.record_mbr.specs.Mbr.{code_of}
use Rattle.table.specs.declared.LogicalPartition.{LogicalPartition}
use Rattle.table.specs.declared.MBR.{MBR}
use Rattle.table.specs.Table.{most, no_logical}
use Rattle.block.specs.Block.{part, chs_part, chs_in, entry_part, entry_from, sectors_part, sectors_tag, sectors_in, last_part, last_tag, last_chs_in, slot_front, kept_part, slot_part, slot_of, tag_of, code_part, entries_part, header_part, header_in, front_part, slots_part, tags_part, slot_at, tag_at, slots_in, possible, tagged, block_bytes, table_in, block_checks, header_length, slot_code, slot_mark, slot_length, slots_offset, tags_offset, block_length}
use Rattle.record_mbr.specs.Fits.{ChsFits, EntryFits, HeaderFits}
use Rattle.block.specs.Fits.{SectorsFit, LastFits, KeptLong, SlotFits, SlotsFit, TableFits}
use Rattle.block.proofs.Laws.{length_front, length-slot, length-tags, part_at}

-- an address from its four bytes, and an entry from its eighteen
pub chs-back : (c : CHS) → ChsFits c → chs_in (chs_part c) 0 ≡ c
chs-back c k = rw (number-bytes_of little 2 c.cylinder k)

pub entry-back : (e : MBRPartitionEntry) → EntryFits e → entry_from (entry_part e) 0 ≡ e
entry-back e k =
    rw (number-bytes_of little 2 e.first_chs.cylinder k.first, number-bytes_of little 2 e.last_chs.cylinder k.last, number-bytes_of little 4 e.starting_lba k.start, number-bytes_of little 4 e.sectors k.sectors)

-- a slot: the fields before the code stand at their places, whatever the tags
module _ (e : MBRPartitionEntry) (a : ℕ) (f : CHS) (q : List ℕ) where
  abbrev fields : Option ℕ → Option CHS → List ℕ
  fields m n = entry_part e ++ bytes_of little 4 a ++ sectors_part m ++ chs_part f ++ last_part n ++ q

  entry-there : EntryFits e → (m : Option ℕ) (n : Option CHS) → entry_from (fields m n) 0 ≡ e
  entry-there k m n = entry-back e k

  place-there : a < 2 ^ 32 → (m : Option ℕ) (n : Option CHS) → number little (bytes_at (fields m n) 18 4) ≡ a
  place-there k m n = number-bytes_of little 4 a k

  sectors-there : (m : Option ℕ) (n : Option CHS) → SectorsFit m → sectors_in (sectors_tag m + last_tag n) (fields m n) 22 ≡ m
  sectors-there None None k = refl
  sectors-there None (Some c) k = refl
  sectors-there (Some v) None k = ap Some (number-bytes_of little 4 v k)
  sectors-there (Some v) (Some c) k = ap Some (number-bytes_of little 4 v k)

  first-there : ChsFits f → (m : Option ℕ) (n : Option CHS) → chs_in (fields m n) 26 ≡ f
  first-there k None n = chs-back f k
  first-there k (Some v) n = chs-back f k

  last-there : (m : Option ℕ) (n : Option CHS) → LastFits n → last_chs_in (sectors_tag m + last_tag n) (fields m n) 30 ≡ n
  last-there None None k = refl
  last-there None (Some c) k = ap Some (chs-back c k)
  last-there (Some v) None k = refl
  last-there (Some v) (Some c) k = ap Some (chs-back c k)

-- code and mark, behind a front
kept_there : (f : List ℕ) (k : Kept) → length f ≡ slot_code → KeptLong k → kept_at slot_code slot_mark (f ++ kept_part k) ≡ k
unfolding kept_at part
kept_there f k a n =
    let s : List ℕ = f ++ kept_part k in
    let c : part s slot_code 446 ≡ k.bootstrap_code = part_at s f k.bootstrap_code k.mark slot_code 446 refl a n.code in
    let w : length (f ++ k.bootstrap_code) ≡ slot_mark = length-append f k.bootstrap_code ∙ rw (a, n.code) in
    let e : s ≡ (f ++ k.bootstrap_code) ++ (k.mark ++ []) = sym (append_assoc f k.bootstrap_code k.mark) ∙ ap (λ (r : List ℕ). (f ++ k.bootstrap_code) ++ r) (sym (append-nil k.mark)) in
    let m : part s slot_mark mark_length ≡ k.mark = part_at s (f ++ k.bootstrap_code) k.mark [] slot_mark mark_length e w n.mark in
    λ i. record { bootstrap_code = c i; mark = m i }

pub slot-back : (l : LogicalPartition) → SlotFits l → slot_of (tag_of l) (slot_part l) ≡ l
unfolding slot_part
slot-back l k =
    let e = l.partition in
    let a = l.absolute_ebr_lba.0 in
    let f = l.ebr_first_chs in
    let q = kept_part l.kept in
    let m = l.ebr_sectors in
    let n = l.ebr_last_chs in
    λ i. record {
      partition = entry-there e a f q k.partition m n i;
      absolute_ebr_lba = record { 0 = place-there e a f q k.place m n i };
      ebr_sectors = sectors-there e a f q m n k.sectors i;
      ebr_first_chs = first-there e a f q k.first m n i;
      ebr_last_chs = last-there e a f q m n k.last i;
      kept = kept_there (slot_front l) l.kept (length_front l) k.kept i;
    }

pub slot-tag : (l : LogicalPartition) → possible (tag_of l) ≡ true
slot-tag l = go l.ebr_sectors l.ebr_last_chs
  where
    go : (m : Option ℕ) (n : Option CHS) → possible (sectors_tag m + last_tag n) ≡ true
    go None None = refl
    go None (Some c) = refl
    go (Some v) None = refl
    go (Some v) (Some c) = refl

-- an entry is read from its bytes alone
entry-like : (s t : List ℕ) (a b : ℕ) → ((j : ℕ) → get_or s (a + j) 0 ≡ get_or t (b + j) 0) → entry_from s a ≡ entry_from t b
entry-like s t a b h =
    let z : get_or s a 0 ≡ get_or t b 0 = ap (λ (m : ℕ). get_or s m 0) (sym (add-zero a)) ∙ h 0 ∙ ap (λ (m : ℕ). get_or t m 0) (add-zero b) in
    simp (z, h, add_assoc)

entry_past : (p q : List ℕ) (n a b : ℕ) → length p ≡ n → n + b ≡ a → entry_from (p ++ q) a ≡ entry_from q b
entry_past p q n a b e s =
    entry-like (p ++ q) q a b
    (λ j.
    let z : a + j ≡ length p + (b + j) = omega arith in
    ap (λ (m : ℕ). get_or (p ++ q) m 0) z ∙ get_or-append-add p q (b + j) 0)

module _ (h : MBRHeader) (k : HeaderFits h) where
  abbrev code : List ℕ
  code = h.bootstrap_code

  abbrev disk : List ℕ
  disk = h.disk_signature

  abbrev mark : List ℕ
  mark = h.copy_protected

  abbrev entries : List ℕ
  entries = entries_part h.partition_1 h.partition_2 h.partition_3 h.partition_4

  abbrev sign : List ℕ
  sign = h.boot_signature

  at-entries : header_part h ≡ code_part h ++ (entries ++ sign)
  unfolding header_part
  at-entries = append_assoc (code_part h) entries sign

  at_mark : header_part h ≡ (code ++ disk) ++ (mark ++ (entries ++ sign))
  at_mark = at-entries ∙ append_assoc (code ++ disk) mark (entries ++ sign)

  at_code : header_part h ≡ code ++ (disk ++ (mark ++ (entries ++ sign)))
  at_code = at_mark ∙ append_assoc code disk (mark ++ (entries ++ sign))

  at_sign : header_part h ≡ (code_part h ++ entries) ++ (sign ++ [])
  at_sign = at-entries ∙ sym (append_assoc (code_part h) entries sign) ∙ ap (λ (r : List ℕ). (code_part h ++ entries) ++ r) (sym (append-nil sign))

  n₂ : length (code ++ disk) ≡ 444
  n₂ = length-append code disk ∙ rw (k.code, k.disk)

  n₃ : length (code_part h) ≡ 446
  n₃ = length-append (code ++ disk) mark ∙ rw (n₂, k.mark)

  n₄ : length (code_part h ++ entries) ≡ 518
  n₄ = length-append (code_part h) entries ∙ rw n₃

  pub length-header : length (header_part h) ≡ header_length
  length-header = ap length at_sign ∙ length-append (code_part h ++ entries) (sign ++ []) ∙ rw (n₄, append-nil sign, k.sign)

  pub header-back : header_in (header_part h) ≡ h
  unfolding code_of
  header-back =
      let s : List ℕ = header_part h in
      let c : take 440 s ≡ code = ap (take 440) at_code ∙ take_at code _ 440 k.code in
      let d : bytes_at s 440 4 ≡ disk = part-within s code disk (mark ++ (entries ++ sign)) 440 4 at_code k.code k.disk in
      let m : bytes_at s 444 2 ≡ mark = part-within s (code ++ disk) mark (entries ++ sign) 444 2 at_mark n₂ k.mark in
      let g : bytes_at s 518 2 ≡ sign = part-within s (code_part h ++ entries) sign [] 518 2 at_sign n₄ k.sign in
      let e₁ : entry_from s 446 ≡ h.partition_1 = ap (λ (x : List ℕ). entry_from x 446) at-entries ∙ entry_past (code_part h) (entries ++ sign) 446 446 0 n₃ refl ∙ entry-back h.partition_1 k.one in
      let e₂ : entry_from s 464 ≡ h.partition_2 = ap (λ (x : List ℕ). entry_from x 464) at-entries ∙ entry_past (code_part h) (entries ++ sign) 446 464 18 n₃ refl ∙ entry-back h.partition_2 k.two in
      let e₃ : entry_from s 482 ≡ h.partition_3 = ap (λ (x : List ℕ). entry_from x 482) at-entries ∙ entry_past (code_part h) (entries ++ sign) 446 482 36 n₃ refl ∙ entry-back h.partition_3 k.three in
      let e₄ : entry_from s 500 ≡ h.partition_4 = ap (λ (x : List ℕ). entry_from x 500) at-entries ∙ entry_past (code_part h) (entries ++ sign) 446 500 54 n₃ refl ∙ entry-back h.partition_4 k.four in
      λ i. record {
        bootstrap_code = c i;
        disk_signature = d i;
        copy_protected = m i;
        partition_1 = e₁ i;
        partition_2 = e₂ i;
        partition_3 = e₃ i;
        partition_4 = e₄ i;
        boot_signature = g i;
      }

-- the slots of a block
pub length-slots : (ls : List LogicalPartition) → SlotsFit ls → length (slots_part ls) ≡ slot_length * length ls
unfolding slots_part
length-slots [] k = refl
length-slots (l ∷ ls) k =
    length-append (slot_part l) (slots_part ls) ∙ omega (arith, length-slot l k.0.kept, length-slots ls k.1)

slot-there : (b p q : List ℕ) (ls : List LogicalPartition) (o n : ℕ) → b ≡ p ++ (slots_part ls ++ q) → length p ≡ o → SlotsFit ls → n < length ls
    → part b (o + slot_length * n) slot_length ≡ slot_part (get_or ls n no_logical)
unfolding slots_part
slot-there b p q [] o n e a k h = absurd (omega arith)
slot-there b p q (l ∷ ls) o zero e a k h =
    part_at b p (slot_part l) (slots_part ls ++ q) (o + slot_length * 0) slot_length (e ∙ ap (λ (r : List ℕ). p ++ r) (append_assoc (slot_part l) (slots_part ls) q)) (omega arith) (length-slot l k.0.kept)
slot-there b p q (l ∷ ls) o (suc n) e a k h =
    let z : o + slot_length * suc n ≡ (o + slot_length) + slot_length * n = omega arith in
    let w : length (p ++ slot_part l) ≡ o + slot_length = length-append p (slot_part l) ∙ omega (arith, length-slot l k.0.kept) in
    let f : b ≡ (p ++ slot_part l) ++ (slots_part ls ++ q) = e ∙ ap (λ (r : List ℕ). p ++ r) (append_assoc (slot_part l) (slots_part ls) q) ∙ sym (append_assoc p (slot_part l) (slots_part ls ++ q)) in
    ap (λ (i : ℕ). part b i slot_length) z
    ∙ slot-there b (p ++ slot_part l) q ls (o + slot_length) n f w k.1 (omega arith)

pub tag-there : (ls : List LogicalPartition) (n : ℕ) → n < length ls → get_or (tags_part ls) n 0 ≡ tag_of (get_or ls n no_logical)
unfolding tags_part
tag-there [] n h = absurd (omega arith)
tag-there (l ∷ ls) zero h = refl
tag-there (l ∷ ls) (suc n) h = tag-there ls n (omega arith)

fit_at : (ls : List LogicalPartition) (n : ℕ) → SlotsFit ls → n < length ls → SlotFits (get_or ls n no_logical)
fit_at [] n k h = absurd (omega arith)
fit_at (l ∷ ls) zero k h = k.0
fit_at (l ∷ ls) (suc n) k h = fit_at ls n k.1 (omega arith)

module _ (b p : List ℕ) (ls : List LogicalPartition) (e : b ≡ p ++ (slots_part ls ++ tags_part ls)) (a : length p ≡ slots_offset) (k : SlotsFit ls) (l : length ls ≡ most) where
  tag_back : (n : ℕ) → n < most → tag_at b n ≡ tag_of (get_or ls n no_logical)
  tag_back n h =
      let w : length (p ++ slots_part ls) ≡ tags_offset = length-append p (slots_part ls) ∙ omega (arith, length-slots ls k) in
      ap (λ (x : List ℕ). get_or x (tags_offset + n) 0) (e ∙ sym (append_assoc p (slots_part ls) (tags_part ls)))
      ∙ ap (λ (m : ℕ). get_or ((p ++ slots_part ls) ++ tags_part ls) (m + n) 0) (sym w)
      ∙ get_or-append-add (p ++ slots_part ls) (tags_part ls) n 0
      ∙ tag-there ls n (omega arith)

  slots-back : (n : ℕ) → n ≤ most → slots_in b n ≡ take n ls
  unfolding slots_in
  slots-back zero h = refl
  slots-back (suc n) h =
      let s : slot_of (tag_at b n) (slot_at b n) ≡ get_or ls n no_logical =
      ap (λ (t : ℕ). slot_of t (slot_at b n)) (tag_back n (omega arith))
      ∙ ap (slot_of (tag_of (get_or ls n no_logical))) (slot-there b p (tags_part ls) ls slots_offset n e a k (omega arith))
      ∙ slot-back (get_or ls n no_logical) (fit_at ls n k (omega arith)) in
      let r : slots_in b n ≡ take n ls = slots-back n (omega arith) in
      rw (r, s) (sym (take-suc ls n no_logical (omega arith)))

  slots-tagged : (i n : ℕ) → i + n ≤ most → tagged b i n ≡ true
  unfolding tagged
  slots-tagged i zero h = refl
  slots-tagged i (suc n) h =
      let s : possible (tag_at b i) ≡ true = ap possible (tag_back i (omega arith)) ∙ slot-tag (get_or ls i no_logical) in
      rw s (slots-tagged (suc i) n (omega arith))

module _ (t : MBR) (k : TableFits t) where
  abbrev front : List ℕ
  front = front_part t.sector_size t.disk_size t.align t.count t.cylinders t.heads t.sectors

  abbrev slots : List ℕ
  slots = slots_part t.logical_partitions

  abbrev tags : List ℕ
  tags = tags_part t.logical_partitions

  in_parts : block_bytes t ≡ (front ++ header_part t.header) ++ (slots ++ tags)
  unfolding block_bytes
  in_parts = append_assoc (front ++ header_part t.header) slots tags

  behind-front : block_bytes t ≡ front ++ (header_part t.header ++ (slots ++ tags))
  behind-front = in_parts ∙ append_assoc front (header_part t.header) (slots ++ tags)

  m₂ : length (front ++ header_part t.header) ≡ slots_offset
  m₂ = length-append front (header_part t.header) ∙ rw (length-header t.header k.header)

  -- a block has 12,852 bytes
  pub length-block : length (block_bytes t) ≡ block_length
  length-block =
      ap length in_parts ∙ length-append (front ++ header_part t.header) (slots ++ tags)
      ∙ omega (arith, m₂, length-append slots tags, length-slots t.logical_partitions k.slots, length-tags t.logical_partitions, k.long)

  -- the count in a block is the table's
  count-back : number little (bytes_at (block_bytes t) 12 4) ≡ t.count
  count-back = ap (λ (b : List ℕ). number little (bytes_at b 12 4)) behind-front ∙ number-bytes_of little 4 t.count k.count

  -- a table is read back from its block
  pub table-back : table_in (block_bytes t) ≡ t
  unfolding table_in
  table-back =
      let b : List ℕ = block_bytes t in
      let e = behind-front in
      let size : number little (bytes_at b 0 4) ≡ t.sector_size = ap (λ (x : List ℕ). number little (bytes_at x 0 4)) e ∙ number-bytes_of little 4 t.sector_size k.size in
      let disk : number little (bytes_at b 4 4) ≡ t.disk_size = ap (λ (x : List ℕ). number little (bytes_at x 4 4)) e ∙ number-bytes_of little 4 t.disk_size k.disk in
      let al : number little (bytes_at b 8 4) ≡ t.align = ap (λ (x : List ℕ). number little (bytes_at x 8 4)) e ∙ number-bytes_of little 4 t.align k.align in
      let cy : number little (bytes_at b 16 2) ≡ t.cylinders = ap (λ (x : List ℕ). number little (bytes_at x 16 2)) e ∙ number-bytes_of little 2 t.cylinders k.cylinders in
      let hd : get_or b 18 0 ≡ t.heads = ap (λ (x : List ℕ). get_or x 18 0) e in
      let sc : get_or b 19 0 ≡ t.sectors = ap (λ (x : List ℕ). get_or x 19 0) e in
      let h : header_in (part b 20 header_length) ≡ t.header =
      ap header_in (part_at b front (header_part t.header) (slots ++ tags) 20 header_length e refl (length-header t.header k.header)) ∙ header-back t.header k.header in
      let ls : List LogicalPartition = t.logical_partitions in
      let s : slots_in b most ≡ ls = slots-back b (front ++ header_part t.header) ls in_parts m₂ k.slots k.long most (omega arith) ∙ take_all most ls (omega (arith, k.long)) in
      λ i. record {
        sector_size = size i;
        header = h i;
        logical_partitions = s i;
        count = count-back i;
        align = al i;
        cylinders = cy i;
        heads = hd i;
        sectors = sc i;
        disk_size = disk i;
      }

  -- and no check fails on it
  pub block_reads : t.count ≤ most → first-fail (block_checks (block_bytes t)) ≡ None
  block_reads c =
      rw (eq-eqb _ _ length-block, count-back, le-leb _ _ c, slots-tagged (block_bytes t) (front ++ header_part t.header) t.logical_partitions in_parts m₂ k.slots k.long 0 most (omega arith))

  -- so reading a block that was written answers the table
  pub block-gives : t.count ≤ most → answer (block_checks (block_bytes t)) (table_in (block_bytes t)) ≡ gives t
  block-gives c = checked-none (block_checks (block_bytes t)) refuses (gives (table_in (block_bytes t))) (block_reads c) ∙ ap gives table-back
