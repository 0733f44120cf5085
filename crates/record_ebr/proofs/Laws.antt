-- Laws of EBR records. Assumes nothing.
use mathlib.Core.Path.{◌≡◌, refl, sym, ap, ◌∙◌}
use mathlib.Core.Bool.{true}
use Rattle.std.specs.Prelude.{None}
use mathlib.Core.List.{List, ◌++◌, append_assoc}
use Prim.Native.Nat.{ℕ, ◌+◌, ◌≤◌}
use native.Mathlib.Omega.{arith}
use lib.ListN.{length, take, drop, get_or, length-append, length-drop, length-replicate}
use lib.Seq.{take_at, drop_at, get_or-append-add, length-take-le}
use Rattle.base.specs.Bytes.{Record, stands_at, signature}
use Rattle.base.specs.Checks.{first-fail}
use Rattle.base.proofs.Bytes.{bytes-append, bytes-zeros, bytes_take, bytes_drop}
use Rattle.record_entry.specs.Entry.{entry_at, entry_bytes, flag_ok, EntryOk}
use Rattle.record_entry.proofs.Laws.{entry_past, entry-back, entry-ok, entry-bytes}
use Rattle.record_ebr.specs.declared.EBRHeader.{EBRHeader}
use Rattle.record_ebr.specs.Ebr.{mark_length, mark_offset, kept_at, kept_of, ebr_of, marked, ebr_bytes, ebr_read_checks, no_mark, no_kept, MarkOk, KeptOk, EbrOk}

get_d_past : (p q : List ℕ) (n m : ℕ) → length p ≡ n → get_or (p ++ q) (n + m) 0 ≡ get_or q m 0
get_d_past p q n m e = rw (← e) (get_or-append-add p q m 0)

-- the parts of written bytes
module _ (m : List ℕ) (h : EBRHeader) (w : MarkOk m) (k : KeptOk h.kept) where
  abbrev code : List ℕ
  code = h.kept.bootstrap_code

  abbrev one : List ℕ
  one = entry_bytes h.partition_1

  abbrev two : List ℕ
  two = entry_bytes h.partition_2

  abbrev rest : List ℕ
  rest = m ++ signature

  ebr-parts : ebr_bytes m h ≡ code ++ (one ++ (two ++ rest))
  unfolding ebr_bytes
  ebr-parts = simp append_assoc

  two-parts : code ++ (one ++ (two ++ rest)) ≡ (code ++ one) ++ (two ++ rest)
  two-parts = sym (append_assoc code one (two ++ rest))

  mark-parts : ebr_bytes m h ≡ ((code ++ one) ++ two) ++ rest
  mark-parts = ebr-parts ∙ two-parts ∙ sym (append_assoc (code ++ one) two rest)

  length-one : length (code ++ one) ≡ 462
  length-one = length-append code one ∙ rw k.long

  length_two : length ((code ++ one) ++ two) ≡ mark_offset
  length_two = length-append (code ++ one) two ∙ rw length-one

  -- the code comes back, and the mark that was written
  pub kept_back : kept_of (ebr_bytes m h) ≡ (marked m h).kept
  unfolding kept_at
  kept_back =
      let e : take 446 (ebr_bytes m h) ≡ code = ap (take 446) ebr-parts ∙ take_at code _ 446 k.long in
      let d : drop mark_offset (ebr_bytes m h) ≡ rest = ap (drop mark_offset) mark-parts ∙ drop_at ((code ++ one) ++ two) rest mark_offset length_two in
      let f : take mark_length (drop mark_offset (ebr_bytes m h)) ≡ m = ap (take mark_length) d ∙ take_at m signature mark_length w.long in
      λ i. record { bootstrap_code = e i; mark = f i }

  pub first_back : EntryOk h.partition_1 → entry_at (ebr_bytes m h) 446 ≡ h.partition_1
  first_back o = ap (λ (s : List ℕ). entry_at s 446) ebr-parts ∙ entry_past code (one ++ (two ++ rest)) 446 k.long ∙ entry-back h.partition_1 (two ++ rest) o

  pub second_back : EntryOk h.partition_2 → entry_at (ebr_bytes m h) 462 ≡ h.partition_2
  second_back o =
      ap (λ (s : List ℕ). entry_at s 462) (ebr-parts ∙ two-parts) ∙ entry_past (code ++ one) (two ++ rest) 462 length-one ∙ entry-back h.partition_2 rest o

  byte-back : (i : ℕ) → get_or (ebr_bytes m h) (446 + (16 + (16 + (mark_length + i)))) 0 ≡ get_or signature i 0
  byte-back i =
      ap (λ (s : List ℕ). get_or s (446 + (16 + (16 + (mark_length + i)))) 0) ebr-parts ∙ get_d_past code (one ++ (two ++ rest)) 446 (16 + (16 + (mark_length + i))) k.long
      ∙ get_d_past one (two ++ rest) 16 (16 + (mark_length + i)) refl ∙ get_d_past two rest 16 (mark_length + i) refl ∙ get_d_past m signature mark_length i w.long

  pub signature-back : stands_at (ebr_bytes m h) 510 signature ≡ true
  signature-back = rw (byte-back 0, byte-back 1)

  pub ebr-record : EntryOk h.partition_1 → EntryOk h.partition_2 → Record (ebr_bytes m h)
  ebr-record a b =
      rw ebr-parts
      (record {
        long = simp (length-append, k.long, w.long);
        bytes = bytes-append code (one ++ (two ++ rest)) k.bytes (bytes-append one (two ++ rest) (entry-bytes h.partition_1 a) (bytes-append two rest (entry-bytes h.partition_2 b) (bytes-append m signature w.bytes (omega arith))));
      })

-- its length: of its numbers nothing is asked
pub ebr-long : (m : List ℕ) (h : EBRHeader) → length m ≡ mark_length → length h.kept.bootstrap_code ≡ 446 → length (ebr_bytes m h) ≡ 512
unfolding ebr_bytes
ebr-long m h w n = simp (length-append, n, w)

-- what is written reads back equal, with the mark that was written
pub ebr-back : (m : List ℕ) (h : EBRHeader) → MarkOk m → EbrOk h → ebr_of (ebr_bytes m h) ≡ marked m h
ebr-back m h w o = rw (kept_back m h w o.kept, first_back m h w o.kept o.first, second_back m h w o.kept o.second)

-- and no check of reading fails on it
pub ebr-reads : (m : List ℕ) (h : EBRHeader) → MarkOk m → EbrOk h → flag_ok h.partition_1 ≡ true → flag_ok h.partition_2 ≡ true → first-fail (ebr_read_checks (ebr_bytes m h)) ≡ None
ebr-reads m h w o f g =
    let n : length (ebr_bytes m h) ≡ 512 = (ebr-record m h w o.kept o.first o.second).long in
    let s : stands_at (ebr_bytes m h) 510 signature ≡ true = signature-back m h w o.kept in
    let p : flag_ok (entry_at (ebr_bytes m h) 446) ≡ true = ap flag_ok (first_back m h w o.kept o.first) ∙ f in
    let q : flag_ok (entry_at (ebr_bytes m h) 462) ≡ true = ap flag_ok (second_back m h w o.kept o.second) ∙ g in
    rw (n, s, p, q)

-- what is read is in range
pub ebr-ok : (r : List ℕ) → Record r → EbrOk (ebr_of r)
unfolding kept_at
ebr-ok r k =
    let l : 446 ≤ length r = omega (arith, k.long) in
    let n : mark_length ≤ length (drop mark_offset r) = omega (arith, k.long, length-drop mark_offset r) in
    record {
      kept = record {
        long = length-take-le 446 r l;
        bytes = bytes_take 446 r k.bytes;
        mark = record {
          long = length-take-le mark_length (drop mark_offset r) n;
          bytes = bytes_take mark_length (drop mark_offset r) (bytes_drop mark_offset r k.bytes);
        };
      };
      first = entry-ok r 446 k.bytes;
      second = entry-ok r 462 k.bytes;
    }

-- a new partition's mark and code are in range
pub no-mark-ok : MarkOk no_mark
no-mark-ok = record { long = length-replicate {A = ℕ} mark_length 0; bytes = bytes-zeros mark_length }

pub no-kept-ok : KeptOk no_kept
unfolding no_kept
no-kept-ok = record { long = length-replicate {A = ℕ} 446 0; bytes = bytes-zeros 446; mark = no-mark-ok }
