-- Laws of MBR records. Assumes nothing.
use mathlib.Core.Path.{◌≡◌, refl, sym, ap, ◌∙◌}
use mathlib.Core.Bool.{Bool, true, false}
use Rattle.std.specs.Prelude.{Option, None, Some}
use mathlib.Core.List.{List, [], ◌∷◌, ◌++◌, append_assoc}
use Prim.Native.Nat.{ℕ, ◌+◌, ◌<◌, ◌≤◌}
use native.Mathlib.Omega.{arith}
use lib.ListN.{length, take, drop, length-append}
use lib.Seq.{take_at, take_all, length-take-le}
use Rattle.base.specs.Pick.{pick}
use Rattle.base.specs.Bytes.{Bytes, Record, bytes_at, stands_at, signature}
use Rattle.base.specs.Checks.{first-fail}
use Rattle.base.proofs.Bytes.{byte_at, bytes-append, bytes_take, bytes_at-part, part-within, parts_join, stands-bytes}
use Rattle.base.proofs.Readings.{undone-injective, from_option}
use Rattle.base.proofs.Checks.{none-fails}
use Rattle.record_entry.specs.declared.MBRPartitionEntry.{MBRPartitionEntry}
use Rattle.record_entry.specs.Entry.{entry_at, entry_bytes, flag_ok, extended, EntryOk}
use Rattle.record_entry.proofs.Laws.{entry-within, entry-bytes-back, entry-ok, entry-bytes}
use Rattle.record_mbr.specs.declared.MBRHeader.{MBRHeader}
use Rattle.record_mbr.specs.declared.Protection.{Protection}
use Rattle.record_mbr.specs.declared.Protection.TheVariants.{No, Yes, Neither}
use Rattle.record_mbr.specs.Mbr.{code_of, mbr_of, mbr_bytes, primaries, header_checks, mbr_read_checks, MbrOk, FirstExtended, PlainAll, extended_of, protected}

-- what an answer says determines it
pub protected-injective : (a b : Protection) → protected a ≡ protected b → a ≡ b
protected-injective = undone-injective protected (from_option (λ b. pick b Yes No) Neither) back
  where
    back : (a : Protection) → from_option (λ b. pick b Yes No) Neither (protected a) ≡ a
    back No = refl
    back Yes = refl
    back Neither = refl

-- the extended entry is the first such one among the entries
pub extended-found : (es : List MBRPartitionEntry) (e : MBRPartitionEntry) → extended_of es ≡ Some e → FirstExtended es e
unfolding extended_of
extended-found [] e h = let w : ◌≡◌ {A = ℕ} 0 1 = cc in absurd (omega arith)
extended-found (x ∷ xs) e h = go (extended-found xs e) (extended x.sys) refl h
  where
    go : (extended_of xs ≡ Some e → FirstExtended xs e) → (b : Bool) → extended x.sys ≡ b → pick b (Some x) (extended_of xs) ≡ Some e → FirstExtended (x ∷ xs) e
    go ih true q p =
        let s : x ≡ e = cc in
        record { before = []; behind = xs; parts = ap (λ (y : MBRPartitionEntry). y ∷ xs) s; plain = tt; is-extended = rw s at q }
    go ih false q p =
        let f : FirstExtended xs e = ih p in
        record { before = x ∷ f.before; behind = f.behind; parts = ap (◌∷◌ x) f.parts; plain = (q, f.plain); is-extended = f.is-extended }

pub extended_none : (es : List MBRPartitionEntry) → extended_of es ≡ None → PlainAll es
unfolding extended_of
extended_none [] h = tt
extended_none (x ∷ xs) h = go (extended_none xs) (extended x.sys) refl h
  where
    go : (extended_of xs ≡ None → PlainAll xs) → (b : Bool) → extended x.sys ≡ b → pick b (Some x) (extended_of xs) ≡ None → PlainAll (x ∷ xs)
    go ih true q p = let w : ◌≡◌ {A = ℕ} 0 1 = cc in absurd (omega arith)
    go ih false q p = (q, ih p)

-- and has what all four have
pub extended-has : (P : MBRPartitionEntry → Type 0) (h : MBRHeader) (e : MBRPartitionEntry) → P h.partition_1 → P h.partition_2 → P h.partition_3 → P h.partition_4
    → extended_of (primaries h) ≡ Some e → P e
unfolding extended_of
extended-has P h e p₁ p₂ p₃ p₄ =
    one h.partition_1 (one h.partition_2 (one h.partition_3 (one h.partition_4 nothing p₄) p₃) p₂) p₁
  where
    nothing : None ≡ Some e → P e
    nothing q = let w : ◌≡◌ {A = ℕ} 0 1 = cc in absurd (omega arith)

    one : (x : MBRPartitionEntry) {o : Option MBRPartitionEntry} → (o ≡ Some e → P e) → P x → pick (extended x.sys) (Some x) o ≡ Some e → P e
    one x {o} rest px q = go (extended x.sys) q
      where
        go : (b : Bool) → pick b (Some x) o ≡ Some e → P e
        go true q =
            let s : x ≡ e = cc in
            rw s at px
        go false q = rest q

-- a header is its fields
same-header : (h : MBRHeader) {c d m g : List ℕ} {e₁ e₂ e₃ e₄ : MBRPartitionEntry} → c ≡ h.bootstrap_code → d ≡ h.disk_signature → m ≡ h.copy_protected
    → e₁ ≡ h.partition_1 → e₂ ≡ h.partition_2 → e₃ ≡ h.partition_3 → e₄ ≡ h.partition_4 → g ≡ h.boot_signature
    → record {
      bootstrap_code = c;
      disk_signature = d;
      copy_protected = m;
      partition_1 = e₁;
      partition_2 = e₂;
      partition_3 = e₃;
      partition_4 = e₄;
      boot_signature = g;
    } ≡ h
same-header h c d m e₁ e₂ e₃ e₄ g = rw (c, d, m, e₁, e₂, e₃, e₄, g)

-- an entry's 16 bytes stand in these bytes from an index on
pub record Stands (s : List ℕ) (at : ℕ) (e : MBRPartitionEntry) : Type 0 where
  pub before : List ℕ
  pub behind : List ℕ
  pub parts : s ≡ before ++ (entry_bytes e ++ behind)
  pub long : length before ≡ at

-- the parts of written bytes: of their numbers nothing is asked
module _ (h : MBRHeader) (lc : length h.bootstrap_code ≡ 440) (ld : length h.disk_signature ≡ 4) (lm : length h.copy_protected ≡ 2) where
  abbrev code : List ℕ
  code = h.bootstrap_code

  abbrev disk : List ℕ
  disk = h.disk_signature

  abbrev mark : List ℕ
  mark = h.copy_protected

  abbrev one : List ℕ
  one = entry_bytes h.partition_1

  abbrev two : List ℕ
  two = entry_bytes h.partition_2

  abbrev three : List ℕ
  three = entry_bytes h.partition_3

  abbrev four : List ℕ
  four = entry_bytes h.partition_4

  at_code : mbr_bytes h ≡ code ++ (disk ++ (mark ++ (one ++ (two ++ (three ++ (four ++ signature))))))
  unfolding mbr_bytes
  at_code = simp append_assoc

  at-disk : mbr_bytes h ≡ (code ++ disk) ++ (mark ++ (one ++ (two ++ (three ++ (four ++ signature)))))
  at-disk = at_code ∙ sym (append_assoc code disk (mark ++ (one ++ (two ++ (three ++ (four ++ signature))))))

  at_mark : mbr_bytes h ≡ (code ++ disk ++ mark) ++ (one ++ (two ++ (three ++ (four ++ signature))))
  at_mark = at-disk ∙ sym (append_assoc (code ++ disk) mark (one ++ (two ++ (three ++ (four ++ signature)))))

  at_one : mbr_bytes h ≡ (code ++ disk ++ mark ++ one) ++ (two ++ (three ++ (four ++ signature)))
  at_one = at_mark ∙ sym (append_assoc (code ++ disk ++ mark) one (two ++ (three ++ (four ++ signature))))

  at-two : mbr_bytes h ≡ (code ++ disk ++ mark ++ one ++ two) ++ (three ++ (four ++ signature))
  at-two = at_one ∙ sym (append_assoc (code ++ disk ++ mark ++ one) two (three ++ (four ++ signature)))

  at-three : mbr_bytes h ≡ (code ++ disk ++ mark ++ one ++ two ++ three) ++ (four ++ signature)
  at-three = at-two ∙ sym (append_assoc (code ++ disk ++ mark ++ one ++ two) three (four ++ signature))

  at-four : mbr_bytes h ≡ (code ++ disk ++ mark ++ one ++ two ++ three ++ four) ++ signature
  at-four = at-three ∙ sym (append_assoc (code ++ disk ++ mark ++ one ++ two ++ three) four signature)

  n₂ : length (code ++ disk) ≡ 444
  n₂ = length-append code disk ∙ rw (lc, ld)

  n₃ : length (code ++ disk ++ mark) ≡ 446
  n₃ = length-append (code ++ disk) mark ∙ rw (n₂, lm)

  n₄ : length (code ++ disk ++ mark ++ one) ≡ 462
  n₄ = length-append (code ++ disk ++ mark) one ∙ rw n₃

  n₅ : length (code ++ disk ++ mark ++ one ++ two) ≡ 478
  n₅ = length-append (code ++ disk ++ mark ++ one) two ∙ rw n₄

  n₆ : length (code ++ disk ++ mark ++ one ++ two ++ three) ≡ 494
  n₆ = length-append (code ++ disk ++ mark ++ one ++ two) three ∙ rw n₅

  n₇ : length (code ++ disk ++ mark ++ one ++ two ++ three ++ four) ≡ 510
  n₇ = length-append (code ++ disk ++ mark ++ one ++ two ++ three) four ∙ rw n₆

  pub code-there : take 440 (mbr_bytes h) ≡ code
  code-there = ap (take 440) at_code ∙ take_at code _ 440 lc

  pub disk-there : bytes_at (mbr_bytes h) 440 4 ≡ disk
  disk-there = part-within (mbr_bytes h) code disk (mark ++ (one ++ (two ++ (three ++ (four ++ signature))))) 440 4 at_code lc ld

  pub mark-there : bytes_at (mbr_bytes h) 444 2 ≡ mark
  mark-there = part-within (mbr_bytes h) (code ++ disk) mark (one ++ (two ++ (three ++ (four ++ signature)))) 444 2 at-disk n₂ lm

  pub one-there : Stands (mbr_bytes h) 446 h.partition_1
  one-there = record { before = code ++ disk ++ mark; behind = two ++ (three ++ (four ++ signature)); parts = at_mark; long = n₃ }

  pub two-there : Stands (mbr_bytes h) 462 h.partition_2
  two-there = record { before = code ++ disk ++ mark ++ one; behind = three ++ (four ++ signature); parts = at_one; long = n₄ }

  pub three-there : Stands (mbr_bytes h) 478 h.partition_3
  three-there = record { before = code ++ disk ++ mark ++ one ++ two; behind = four ++ signature; parts = at-two; long = n₅ }

  pub four-there : Stands (mbr_bytes h) 494 h.partition_4
  four-there = record { before = code ++ disk ++ mark ++ one ++ two ++ three; behind = signature; parts = at-three; long = n₆ }

  pub signature-there : bytes_at (mbr_bytes h) 510 2 ≡ signature
  signature-there = part-within (mbr_bytes h) (code ++ disk ++ mark ++ one ++ two ++ three ++ four) signature [] 510 2 at-four n₇ refl

  pub long-there : length (mbr_bytes h) ≡ 512
  long-there = rw at-four (length-append (code ++ disk ++ mark ++ one ++ two ++ three ++ four) signature ∙ rw n₇)

-- they are bytes if those of each part are
pub mbr-bytes : (h : MBRHeader) → Bytes h.bootstrap_code → Bytes h.disk_signature → Bytes h.copy_protected → Bytes (entry_bytes h.partition_1)
    → Bytes (entry_bytes h.partition_2) → Bytes (entry_bytes h.partition_3) → Bytes (entry_bytes h.partition_4) → Bytes (mbr_bytes h)
unfolding mbr_bytes
mbr-bytes h bc bd bm b₁ b₂ b₃ b₄ =
    let c = h.bootstrap_code in
    let d = h.disk_signature in
    let m = h.copy_protected in
    let e₁ = entry_bytes h.partition_1 in
    let e₂ = entry_bytes h.partition_2 in
    let e₃ = entry_bytes h.partition_3 in
    let e₄ = entry_bytes h.partition_4 in
    bytes-append (c ++ d ++ m ++ e₁ ++ e₂ ++ e₃ ++ e₄) signature
    (bytes-append (c ++ d ++ m ++ e₁ ++ e₂ ++ e₃) e₄
    (bytes-append (c ++ d ++ m ++ e₁ ++ e₂) e₃
    (bytes-append (c ++ d ++ m ++ e₁) e₂ (bytes-append (c ++ d ++ m) e₁ (bytes-append (c ++ d) m (bytes-append c d bc bd) bm) b₁) b₂)
    b₃)
    b₄)
    (omega arith)

-- an entry that 16 bytes can hold is read back from there
read-there : (s : List ℕ) (at : ℕ) (e : MBRPartitionEntry) → Stands s at e → EntryOk e → entry_at s at ≡ e
read-there s at e w k = entry-within s w.before w.behind at e w.parts w.long k

module _ (h : MBRHeader) (o : MbrOk h) where
  -- what is written reads back equal
  pub mbr-back : mbr_of (mbr_bytes h) ≡ h
  unfolding code_of
  mbr-back =
      same-header h (code-there h o.code o.disk o.mark) (disk-there h o.code o.disk o.mark) (mark-there h o.code o.disk o.mark)
      (read-there _ _ _ (one-there h o.code o.disk o.mark) o.one) (read-there _ _ _ (two-there h o.code o.disk o.mark) o.two)
      (read-there _ _ _ (three-there h o.code o.disk o.mark) o.three) (read-there _ _ _ (four-there h o.code o.disk o.mark) o.four)
      (signature-there h o.code o.disk o.mark ∙ sym o.signed)

  pub mbr-record : Record (mbr_bytes h)
  mbr-record =
      record {
        long = long-there h o.code o.disk o.mark;
        bytes =
            mbr-bytes h o.code-bytes o.disk-bytes o.mark-bytes (entry-bytes h.partition_1 o.one) (entry-bytes h.partition_2 o.two)
            (entry-bytes h.partition_3 o.three) (entry-bytes h.partition_4 o.four);
      }

  -- and no check of reading fails on it
  pub mbr-reads : first-fail (header_checks h) ≡ None → first-fail (mbr_read_checks (mbr_bytes h)) ≡ None
  mbr-reads f = rw mbr-record.long (ap (λ (x : MBRHeader). first-fail (header_checks x)) mbr-back ∙ f)

  -- which is so once the flags are right
  pub mbr-flags : flag_ok h.partition_1 ≡ true → flag_ok h.partition_2 ≡ true → flag_ok h.partition_3 ≡ true → flag_ok h.partition_4 ≡ true → first-fail (header_checks h) ≡ None
  mbr-flags p q s t = rw (o.signed, p, q, s, t)

-- what is signed has the signature's bytes
signed_by : (r : List ℕ) → stands_at (bytes_at r 510 2) 0 signature ≡ true → bytes_at r 510 2 ≡ signature
signed_by r h = stands-bytes (bytes_at r 510 2) 0 signature h

module _ (r : List ℕ) (k : Record r) (f : first-fail (mbr_read_checks r) ≡ None) where
  signed : bytes_at r 510 2 ≡ signature
  signed = signed_by r (none-fails (mbr_read_checks r) f).1.0

  -- what is read is in range
  pub mbr-ok : MbrOk (mbr_of r)
  unfolding code_of
  mbr-ok =
      let l : 440 ≤ length r = omega (arith, k.long) in
      let g : (i : ℕ) → _ < 256 = byte_at r k.bytes in
      record {
        code = length-take-le 440 r l;
        code-bytes = bytes_take 440 r k.bytes;
        disk = refl;
        disk-bytes = (g 440, (g 441, (g 442, (g 443, tt))));
        mark = refl;
        mark-bytes = (g 444, (g 445, tt));
        one = entry-ok r 446 k.bytes;
        two = entry-ok r 462 k.bytes;
        three = entry-ok r 478 k.bytes;
        four = entry-ok r 494 k.bytes;
        signed = signed;
      }

  part : (at n : ℕ) → at + n ≤ 512 → bytes_at r at n ≡ take n (drop at r)
  part at n h = bytes_at-part r at n (omega (arith, k.long))

  entry-part : (at : ℕ) → at + 16 ≤ 512 → entry_bytes (entry_at r at) ≡ take 16 (drop at r)
  entry-part at h = entry-bytes-back r at k.bytes ∙ part at 16 h

  -- a record that reads is written back byte for byte
  pub mbr-bytes-back : mbr_bytes (mbr_of r) ≡ r
  unfolding mbr_bytes code_of
  mbr-bytes-back =
      let x₁ : List ℕ = take 440 r in
      let x₂ : List ℕ = x₁ ++ bytes_at r 440 4 in
      let x₃ : List ℕ = x₂ ++ bytes_at r 444 2 in
      let x₄ : List ℕ = x₃ ++ entry_bytes (entry_at r 446) in
      let x₅ : List ℕ = x₄ ++ entry_bytes (entry_at r 462) in
      let x₆ : List ℕ = x₅ ++ entry_bytes (entry_at r 478) in
      let x₇ : List ℕ = x₆ ++ entry_bytes (entry_at r 494) in
      let y₂ : x₂ ≡ take 444 r = parts_join r x₁ (bytes_at r 440 4) 440 4 444 refl (part 440 4 (omega arith)) refl in
      let y₃ : x₃ ≡ take 446 r = parts_join r x₂ (bytes_at r 444 2) 444 2 446 y₂ (part 444 2 (omega arith)) refl in
      let y₄ : x₄ ≡ take 462 r = parts_join r x₃ (entry_bytes (entry_at r 446)) 446 16 462 y₃ (entry-part 446 (omega arith)) refl in
      let y₅ : x₅ ≡ take 478 r = parts_join r x₄ (entry_bytes (entry_at r 462)) 462 16 478 y₄ (entry-part 462 (omega arith)) refl in
      let y₆ : x₆ ≡ take 494 r = parts_join r x₅ (entry_bytes (entry_at r 478)) 478 16 494 y₅ (entry-part 478 (omega arith)) refl in
      let y₇ : x₇ ≡ take 510 r = parts_join r x₆ (entry_bytes (entry_at r 494)) 494 16 510 y₆ (entry-part 494 (omega arith)) refl in
      let l : length r ≤ 512 = omega (arith, k.long) in
      parts_join r x₇ signature 510 2 512 y₇ (sym signed ∙ part 510 2 (omega arith)) refl ∙ take_all 512 r l
