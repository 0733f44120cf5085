-- The five parts of an EBR, written one behind the other. Assumes nothing.
use mathlib.Core.Path.{◌≡◌, ◌∙◌}
use mathlib.Core.List.{List, ◌++◌}
use Prim.Native.Nat.{ℕ, ◌+◌, ◌≤◌}
use native.Mathlib.Omega.{arith}
use lib.ListN.{length, length-append}
use Rattle.base.specs.Put.{put}
use Rattle.base.proofs.Put.{behind}
use Rattle.base.specs.Bytes.{signature}
use Rattle.record_entry.specs.Entry.{entry_bytes}
use Rattle.record_ebr.specs.declared.EBRHeader.{EBRHeader}
use Rattle.record_ebr.specs.Ebr.{mark_length, mark_offset, ebr_bytes}

pub written : (d d₁ d₂ d₃ d₄ d₅ : List ℕ) (at : ℕ) (m : List ℕ) (h : EBRHeader) → length m ≡ mark_length → length h.kept.bootstrap_code ≡ 446 → at + 512 ≤ length d
    → d₁ ≡ put d at h.kept.bootstrap_code → d₂ ≡ put d₁ (at + 446) (entry_bytes h.partition_1)
    → d₃ ≡ put d₂ (at + 462) (entry_bytes h.partition_2) → d₄ ≡ put d₃ (at + mark_offset) m → d₅ ≡ put d₄ (at + 510) signature
    → d₅ ≡ put d at (ebr_bytes m h)
unfolding ebr_bytes
written d d₁ d₂ d₃ d₄ d₅ at m h w n k e₁ e₂ e₃ e₄ e₅ =
    let x₁ : List ℕ = h.kept.bootstrap_code in
    let x₂ : List ℕ = x₁ ++ entry_bytes h.partition_1 in
    let x₃ : List ℕ = x₂ ++ entry_bytes h.partition_2 in
    let x₄ : List ℕ = x₃ ++ m in
    let n₂ : length x₂ ≡ 462 = length-append x₁ (entry_bytes h.partition_1) ∙ rw n in
    let n₃ : length x₃ ≡ mark_offset = length-append x₂ (entry_bytes h.partition_2) ∙ rw n₂ in
    let n₄ : length x₄ ≡ 510 = length-append x₃ m ∙ rw (n₃, w) in
    let f₂ : d₂ ≡ put d at x₂ = behind d d₁ d₂ at 446 x₁ _ n (omega arith) e₁ e₂ in
    let f₃ : d₃ ≡ put d at x₃ = behind d d₂ d₃ at 462 x₂ _ n₂ (omega arith) f₂ e₃ in
    let f₄ : d₄ ≡ put d at x₄ = behind d d₃ d₄ at mark_offset x₃ _ n₃ (omega arith) f₃ e₄ in
    behind d d₄ d₅ at 510 x₄ _ n₄ (omega arith) f₄ e₅
