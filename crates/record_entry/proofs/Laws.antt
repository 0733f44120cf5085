-- Laws of entries and their bytes. Assumes nothing.
use mathlib.Core.Path.{◌≡◌, refl, sym, ap, ◌∙◌}
use mathlib.Core.List.{List, ◌++◌}
use Prim.Native.Nat.{ℕ, ◌+◌, ◌<◌}
use native.Mathlib.Nat.{add-zero, add_assoc}
use native.Mathlib.Omega.{arith}
use lib.ListN.{length, get_or, replicate}
use lib.Seq.{get_or-append-add}
use Rattle.base.specs.Bytes.{Bytes, bytes_at, number, bytes_of, little}
use Rattle.base.proofs.Bytes.{byte_at, number-bytes_of, bytes_of-number, number-below}
use Rattle.record_chs.specs.Chs.{chs_of, chs_bytes}
use Rattle.record_chs.proofs.Laws.{chs-back, bytes_back, chs-ok}
use Rattle.record_entry.specs.declared.MBRPartitionEntry.{MBRPartitionEntry}
use Rattle.record_entry.specs.Entry.{entry_at, entry_bytes, no_entry, EntryOk}

-- past a first part of n bytes, an entry is that of the rest
pub entry_past : (p q : List ℕ) (n : ℕ) → length p ≡ n → entry_at (p ++ q) n ≡ entry_at q 0
entry_past p q n e =
    let g : (k : ℕ) → get_or (p ++ q) (n + k) 0 ≡ get_or q k 0 = λ k. ap (λ (m : ℕ). get_or (p ++ q) (m + k) 0) (sym e) ∙ get_or-append-add p q k 0 in
    let z : get_or (p ++ q) n 0 ≡ get_or q 0 0 = ap (λ (m : ℕ). get_or (p ++ q) m 0) (sym (add-zero n)) ∙ g 0 in
    simp (z, g, add_assoc)

-- an entry whose fields fit is read back from its bytes
pub entry-back : (e : MBRPartitionEntry) (rest : List ℕ) → EntryOk e → entry_at (entry_bytes e ++ rest) 0 ≡ e
entry-back e rest k =
    rw (chs-back e.first_chs k.first, chs-back e.last_chs k.last, number-bytes_of little 4 e.starting_lba k.start, number-bytes_of little 4 e.sectors k.sectors)

-- an entry whose fields fit, written among other bytes, is read back
pub entry-within : (s p q : List ℕ) (at : ℕ) (e : MBRPartitionEntry) → s ≡ p ++ (entry_bytes e ++ q) → length p ≡ at → EntryOk e → entry_at s at ≡ e
entry-within s p q at e w l k = ap (λ (t : List ℕ). entry_at t at) w ∙ entry_past p (entry_bytes e ++ q) at l ∙ entry-back e q k

-- the 16 bytes of what is read from bytes are those bytes
pub entry-bytes-back : (s : List ℕ) (at : ℕ) → Bytes s → entry_bytes (entry_at s at) ≡ bytes_at s at 16
entry-bytes-back s at b =
    let g : (k : ℕ) → get_or s k 0 < 256 = byte_at s b in
    let first : List ℕ = bytes_at s (at + 1) 3 in
    let last : List ℕ = bytes_at s (at + 5) 3 in
    let start : List ℕ = bytes_at s (at + 8) 4 in
    let sectors : List ℕ = bytes_at s (at + 12) 4 in
    let e₁ : chs_bytes (chs_of first) ≡ first = bytes_back _ _ _ (g _, (g _, (g _, tt))) in
    let e₂ : chs_bytes (chs_of last) ≡ last = bytes_back _ _ _ (g _, (g _, (g _, tt))) in
    let e₃ : bytes_of little 4 (number little start) ≡ start = bytes_of-number little start (g _, (g _, (g _, (g _, tt)))) in
    let e₄ : bytes_of little 4 (number little sectors) ≡ sectors = bytes_of-number little sectors (g _, (g _, (g _, (g _, tt)))) in
    cc (e₁, e₂, e₃, e₄, add_assoc at 1 1, add_assoc at 1 2, add_assoc at 5 1, add_assoc at 5 2, add_assoc at 8 1, add_assoc at 8 2, add_assoc at 8 3, add_assoc at 12 1, add_assoc at 12 2, add_assoc at 12 3)

-- what is read is in range
pub entry-ok : (s : List ℕ) (at : ℕ) → Bytes s → EntryOk (entry_at s at)
entry-ok s at b =
    let g : (k : ℕ) → get_or s k 0 < 256 = byte_at s b in
    record {
      boot = g _;
      first = chs-ok _ _ _ (g _, (g _, (g _, tt)));
      sys = g _;
      last = chs-ok _ _ _ (g _, (g _, (g _, tt)));
      start = number-below little (bytes_at s (at + 8) 4) (g _, (g _, (g _, (g _, tt))));
      sectors = number-below little (bytes_at s (at + 12) 4) (g _, (g _, (g _, (g _, tt))));
    }

pub entry-bytes : (e : MBRPartitionEntry) → EntryOk e → Bytes (entry_bytes e)
entry-bytes e k = omega (arith, k.boot, k.first.head, k.sys, k.last.head)

-- the empty entry is 16 zeros
pub no-entry-bytes : entry_bytes no_entry ≡ replicate 16 0
no-entry-bytes = refl
