-- The eight parts of an MBR, written one behind the other. Assumes nothing.
use mathlib.Core.Path.{◌≡◌, refl, ◌∙◌}
use mathlib.Core.List.{List, ◌++◌, append_assoc}
use Prim.Native.Nat.{ℕ, ◌≤◌}
use native.Mathlib.Omega.{arith}
use lib.ListN.{length, length-append}
use Rattle.base.specs.Put.{put}
use Rattle.base.proofs.Put.{behind}
use Rattle.base.specs.Bytes.{signature}
use Rattle.record_entry.specs.Entry.{entry_bytes}
use Rattle.record_mbr.specs.declared.MBRHeader.{MBRHeader}
use Rattle.record_mbr.specs.Mbr.{mbr_bytes}

-- code, disk signature, copy mark
abbrev pub front : MBRHeader → List ℕ
front h = h.bootstrap_code ++ h.disk_signature ++ h.copy_protected

-- entries, signature
abbrev pub back : MBRHeader → List ℕ
back h = entry_bytes h.partition_1 ++ entry_bytes h.partition_2 ++ entry_bytes h.partition_3 ++ entry_bytes h.partition_4 ++ signature

pub mbr-parts : (h : MBRHeader) → mbr_bytes h ≡ front h ++ back h
unfolding mbr_bytes
mbr-parts h = simp append_assoc

pub front_length : (h : MBRHeader) → length h.bootstrap_code ≡ 440 → length h.disk_signature ≡ 4 → length h.copy_protected ≡ 2 → length (front h) ≡ 446
front_length h a b c = simp (length-append, a, b, c)

pub front-written : (d d₁ d₂ d₃ : List ℕ) (h : MBRHeader) → length h.bootstrap_code ≡ 440 → length h.disk_signature ≡ 4 → 512 ≤ length d
    → d₁ ≡ put d 0 h.bootstrap_code → d₂ ≡ put d₁ 440 h.disk_signature → d₃ ≡ put d₂ 444 h.copy_protected → d₃ ≡ put d 0 (front h)
front-written d d₁ d₂ d₃ h a b k e₁ e₂ e₃ =
    let x₁ : List ℕ = h.bootstrap_code in
    let x₂ : List ℕ = x₁ ++ h.disk_signature in
    let n₂ : length x₂ ≡ 444 = simp (length-append, a, b) in
    let f₂ : d₂ ≡ put d 0 x₂ = behind d d₁ d₂ 0 440 x₁ h.disk_signature a (omega arith) e₁ e₂ in
    behind d d₂ d₃ 0 444 x₂ h.copy_protected n₂ (omega arith) f₂ e₃

pub back-written : (d d₁ d₂ d₃ d₄ d₅ : List ℕ) (h : MBRHeader) → 512 ≤ length d
    → d₁ ≡ put d 446 (entry_bytes h.partition_1) → d₂ ≡ put d₁ 462 (entry_bytes h.partition_2) → d₃ ≡ put d₂ 478 (entry_bytes h.partition_3)
    → d₄ ≡ put d₃ 494 (entry_bytes h.partition_4) → d₅ ≡ put d₄ 510 signature → d₅ ≡ put d 446 (back h)
back-written d d₁ d₂ d₃ d₄ d₅ h k e₁ e₂ e₃ e₄ e₅ =
    let x₁ : List ℕ = entry_bytes h.partition_1 in
    let x₂ : List ℕ = x₁ ++ entry_bytes h.partition_2 in
    let x₃ : List ℕ = x₂ ++ entry_bytes h.partition_3 in
    let x₄ : List ℕ = x₃ ++ entry_bytes h.partition_4 in
    let f₂ : d₂ ≡ put d 446 x₂ = behind d d₁ d₂ 446 16 x₁ (entry_bytes h.partition_2) refl (omega arith) e₁ e₂ in
    let f₃ : d₃ ≡ put d 446 x₃ = behind d d₂ d₃ 446 32 x₂ (entry_bytes h.partition_3) refl (omega arith) f₂ e₃ in
    let f₄ : d₄ ≡ put d 446 x₄ = behind d d₃ d₄ 446 48 x₃ (entry_bytes h.partition_4) refl (omega arith) f₃ e₄ in
    behind d d₄ d₅ 446 64 x₄ signature refl (omega arith) f₄ e₅

pub all-written : (d d₁ d₂ : List ℕ) (h : MBRHeader) → length (front h) ≡ 446 → 512 ≤ length d → d₁ ≡ put d 0 (front h) → d₂ ≡ put d₁ 446 (back h) → d₂ ≡ put d 0 (mbr_bytes h)
all-written d d₁ d₂ h n k e₁ e₂ = behind d d₁ d₂ 0 446 (front h) (back h) n (omega arith) e₁ e₂ ∙ rw (mbr-parts h)
