-- Every field of the UEFI Specification's legacy MBR is read from, and written to, its place there. Assumes nothing.
use mathlib.Core.Path.{◌≡◌, refl, sym, ap, ◌∙◌}
use Rattle.std.specs.Prelude.{None}
use mathlib.Core.List.{List, [], ◌∷◌, ◌++◌}
use Prim.Native.Nat.{ℕ, ◌+◌, ◌<◌, ◌≤◌}
use native.Mathlib.Nat.{add-zero, add_assoc}
use native.Mathlib.Omega.{arith}
use lib.ListN.{length, take, get_or}
use lib.Seq.{take-take, take_all, get_or-append-add}
use Rattle.base.specs.Bytes.{Bytes, Record, bytes_at, number, little, signature}
use Rattle.base.specs.Checks.{first-fail}
use Rattle.base.proofs.Bytes.{byte_at, bytes_at-part, number-bytes_of, stands-bytes}
use Rattle.base.proofs.Checks.{none-fails}
use Rattle.record_chs.specs.Chs.{chs_of, chs_bytes}
use Rattle.record_chs.proofs.Laws.{bytes_back, bytes_low}
use Rattle.record_entry.specs.declared.MBRPartitionEntry.{MBRPartitionEntry}
use Rattle.record_entry.specs.Entry.{entry_at, entry_bytes}
use Rattle.record_mbr.specs.declared.MBRHeader.{MBRHeader}
use Rattle.record_mbr.specs.Mbr.{code_of, mbr_of, mbr_bytes, header_checks, mbr_read_checks}
use Rattle.record_mbr.specs.Fits.{EntryFits, HeaderFits}
use Rattle.record_mbr.specs.Uefi.{bytes, num, value_of, Part, BootIndicator, StartingCHS, OSType, EndingCHS, StartingLBA, SizeInLBA, part_place, low_bits, part_held, Slot, first, second, third, fourth, slot_place, slot_held, Field, BootCode, UniqueMBRDiskSignature, Unknown, PartitionRecord, Signature, stands, held}
use Rattle.record_mbr.proofs.Laws.{Stands, code-there, disk-there, mark-there, one-there, two-there, three-there, four-there, signature-there, long-there, mbr-ok}

-- a byte is the number in it
one_byte : (s : List ℕ) (at : ℕ) → get_or s at 0 ≡ number little (bytes_at s at 1)
one_byte s at = sym (add-zero (get_or s at 0))

-- three bytes are those of the address in them, of which no bits are dropped
three-bytes : (s : List ℕ) (at : ℕ) → Bytes s → chs_bytes (low_bits (chs_of (bytes_at s at 3))) ≡ bytes_at s at 3
three-bytes s at b =
    let g : (k : ℕ) → get_or s k 0 < 256 = byte_at s b in
    sym (bytes_low (chs_of (bytes_at s at 3))) ∙ bytes_back _ _ _ (g _, (g _, (g _, tt)))

-- a partition record's fields, wherever it stands: read
part-read : (p : Part) (s : List ℕ) (at : ℕ) → Bytes s
    → part_held p (entry_at s at) ≡ value_of (part_place p).shape (bytes_at s (at + (part_place p).offset) (part_place p).size)
part-read BootIndicator s at b = rw (add-zero at) (ap num (one_byte s at))
part-read StartingCHS s at b = ap bytes (three-bytes s (at + 1) b)
part-read OSType s at b = ap num (one_byte s (at + 4))
part-read EndingCHS s at b = ap bytes (three-bytes s (at + 5) b)
part-read StartingLBA s at b = refl
part-read SizeInLBA s at b = refl

-- written
part-there : (p : Part) (e : MBRPartitionEntry) (rest : List ℕ) → EntryFits e
    → value_of (part_place p).shape (bytes_at (entry_bytes e ++ rest) (part_place p).offset (part_place p).size) ≡ part_held p e
part-there BootIndicator e rest k = ap num (add-zero e.boot)
part-there StartingCHS e rest k = ap bytes (bytes_low e.first_chs)
part-there OSType e rest k = ap num (add-zero e.sys)
part-there EndingCHS e rest k = ap bytes (bytes_low e.last_chs)
part-there StartingLBA e rest k = ap num (number-bytes_of little 4 e.starting_lba k.start)
part-there SizeInLBA e rest k = ap num (number-bytes_of little 4 e.sectors k.sectors)

-- past a first part of n bytes, a field's bytes are those of the rest
part-past : (p : Part) (x y : List ℕ) (n : ℕ) → length x ≡ n
    → bytes_at (x ++ y) (n + (part_place p).offset) (part_place p).size ≡ bytes_at y (part_place p).offset (part_place p).size
part-past p x y n e = go p
  where
    g : (k : ℕ) → get_or (x ++ y) (n + k) 0 ≡ get_or y k 0
    g k = ap (λ (m : ℕ). get_or (x ++ y) (m + k) 0) (sym e) ∙ get_or-append-add x y k 0

    go : (p : Part) → bytes_at (x ++ y) (n + (part_place p).offset) (part_place p).size ≡ bytes_at y (part_place p).offset (part_place p).size
    go BootIndicator = simp g
    go StartingCHS = simp (g, add_assoc)
    go OSType = simp g
    go EndingCHS = simp (g, add_assoc)
    go StartingLBA = simp (g, add_assoc)
    go SizeInLBA = simp (g, add_assoc)

part-written : (p : Part) (s : List ℕ) (at : ℕ) (e : MBRPartitionEntry) → Stands s at e → EntryFits e
    → value_of (part_place p).shape (bytes_at s (at + (part_place p).offset) (part_place p).size) ≡ part_held p e
part-written p s at e w k =
    ap (λ (r : List ℕ). value_of (part_place p).shape (bytes_at r (at + (part_place p).offset) (part_place p).size)) w.parts
    ∙ ap (value_of (part_place p).shape) (part-past p w.before (entry_bytes e ++ w.behind) at w.long)
    ∙ part-there p e w.behind k

slot_read : (i : Slot) (r : List ℕ) → slot_held i (mbr_of r) ≡ entry_at r (slot_place i)
slot_read first r = refl
slot_read second r = refl
slot_read third r = refl
slot_read fourth r = refl

-- what is read for a field is what stands at its place
pub uefi-read : (f : Field) (r : List ℕ) → Record r → held f (mbr_of r) ≡ stands f r
unfolding held stands code_of
uefi-read BootCode r k =
    let l : 0 + 424 ≤ length r = omega (arith, k.long) in
    ap bytes (take-take 424 440 r (omega arith) ∙ sym (bytes_at-part r 0 424 l))
uefi-read UniqueMBRDiskSignature r k = refl
uefi-read Unknown r k = refl
uefi-read (PartitionRecord i p) r k = ap (part_held p) (slot_read i r) ∙ part-read p r (slot_place i) k.bytes
uefi-read Signature r k = refl

slot-written : (i : Slot) (p : Part) (h : MBRHeader) → HeaderFits h
    → value_of (part_place p).shape (bytes_at (mbr_bytes h) (slot_place i + (part_place p).offset) (part_place p).size) ≡ part_held p (slot_held i h)
slot-written first p h k = part-written p _ _ _ (one-there h k.code k.disk k.mark) k.one
slot-written second p h k = part-written p _ _ _ (two-there h k.code k.disk k.mark) k.two
slot-written third p h k = part-written p _ _ _ (three-there h k.code k.disk k.mark) k.three
slot-written fourth p h k = part-written p _ _ _ (four-there h k.code k.disk k.mark) k.four

-- what is written for a field stands at its place: of every header that a program holds and writing does not refuse
pub uefi-written : (f : Field) (h : MBRHeader) → HeaderFits h → first-fail (header_checks h) ≡ None → stands f (mbr_bytes h) ≡ held f h
unfolding held stands
uefi-written BootCode h k n =
    let l : 0 + 424 ≤ length (mbr_bytes h) = omega (arith, long-there h k.code k.disk k.mark) in
    ap bytes
    (bytes_at-part (mbr_bytes h) 0 424 l ∙ sym (take-take 424 440 (mbr_bytes h) (omega arith)) ∙ ap (take 424) (code-there h k.code k.disk k.mark))
uefi-written UniqueMBRDiskSignature h k n = ap bytes (disk-there h k.code k.disk k.mark)
uefi-written Unknown h k n = ap bytes (mark-there h k.code k.disk k.mark)
uefi-written (PartitionRecord i p) h k n = slot-written i p h k
uefi-written Signature h k n =
    let s : List ℕ = h.boot_signature in
    let l : 0 + 2 ≤ length s = omega (arith, k.sign) in
    let m : length s ≤ 2 = omega (arith, k.sign) in
    let w : bytes_at s 0 2 ≡ signature = stands-bytes s 0 signature (none-fails (header_checks h) n).0 in
    ap bytes (signature-there h k.code k.disk k.mark ∙ sym w ∙ bytes_at-part s 0 2 l ∙ take_all 2 s m)

-- a record that reads has the signature there
pub uefi-signature : (r : List ℕ) → Record r → first-fail (mbr_read_checks r) ≡ None → stands Signature r ≡ bytes (0x55 ∷ 0xAA ∷ [])
unfolding stands
uefi-signature r k f = ap bytes (mbr-ok r k f).signed
