-- The six parts of an entry, written one behind the other. Assumes nothing.
use mathlib.Core.Path.{◌≡◌, refl}
use mathlib.Core.List.{List, [], ◌∷◌, ◌++◌}
use lib.ListN.{length}
use Prim.Native.Nat.{ℕ, ◌+◌, ◌≤◌}
use native.Mathlib.Omega.{arith}
use Rattle.base.specs.Bytes.{bytes_of, little}
use Rattle.base.specs.Put.{put}
use Rattle.base.proofs.Put.{behind}
use Rattle.record_chs.specs.Chs.{chs_bytes}
use Rattle.record_entry.specs.declared.MBRPartitionEntry.{MBRPartitionEntry}
use Rattle.record_entry.specs.Entry.{entry_bytes}

pub written : (d d₁ d₂ d₃ d₄ d₅ d₆ : List ℕ) (at : ℕ) (e : MBRPartitionEntry) → at + 16 ≤ length d
    → d₁ ≡ put d at (e.boot ∷ []) → d₂ ≡ put d₁ (at + 1) (chs_bytes e.first_chs) → d₃ ≡ put d₂ (at + 4) (e.sys ∷ [])
    → d₄ ≡ put d₃ (at + 5) (chs_bytes e.last_chs) → d₅ ≡ put d₄ (at + 8) (bytes_of little 4 e.starting_lba)
    → d₆ ≡ put d₅ (at + 12) (bytes_of little 4 e.sectors) → d₆ ≡ put d at (entry_bytes e)
written d d₁ d₂ d₃ d₄ d₅ d₆ at e h e₁ e₂ e₃ e₄ e₅ e₆ =
    let x₁ : List ℕ = e.boot ∷ [] in
    let x₂ : List ℕ = x₁ ++ chs_bytes e.first_chs in
    let x₃ : List ℕ = x₂ ++ (e.sys ∷ []) in
    let x₄ : List ℕ = x₃ ++ chs_bytes e.last_chs in
    let x₅ : List ℕ = x₄ ++ bytes_of little 4 e.starting_lba in
    let f₂ : d₂ ≡ put d at x₂ = behind d d₁ d₂ at 1 x₁ _ refl (omega arith) e₁ e₂ in
    let f₃ : d₃ ≡ put d at x₃ = behind d d₂ d₃ at 4 x₂ _ refl (omega arith) f₂ e₃ in
    let f₄ : d₄ ≡ put d at x₄ = behind d d₃ d₄ at 5 x₃ _ refl (omega arith) f₃ e₄ in
    let f₅ : d₅ ≡ put d at x₅ = behind d d₄ d₅ at 8 x₄ _ refl (omega arith) f₄ e₅ in
    behind d d₅ d₆ at 12 x₅ _ refl (omega arith) f₅ e₆
