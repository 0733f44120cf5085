-- One number determines the address, or the refusal, that it stands for. Assumes nothing.
use mathlib.Core.Path.{◌≡◌, ◌∙◌}
use Prim.Native.Nat.{ℕ, ◌+◌, ◌*◌, ◌/◌, ◌%◌}
use native.Mathlib.Omega.{arith}
use Rattle.base.specs.Said.{Said, gives, refuses}
use Rattle.base.proofs.Readings.{undone-injective-on}
use Rattle.record_chs.specs.declared.CHS.{CHS}
use Rattle.record_chs.specs.Chs.{chs}
use Rattle.abi_word.proofs.Laws.{lower, lower-value, lower-upper}
use Rattle.abi_address.specs.Chs.{chs_word, packed_chs, FitsChs}

-- an address of 16, 8 and 8 bits, or a refusal above 0
pub packed_chs-injective : (a b : Said CHS) → FitsChs a → FitsChs b → packed_chs a ≡ packed_chs b → a ≡ b
packed_chs-injective = undone-injective-on FitsChs packed_chs (lower address refuses) back
  where
    address : ℕ → Said CHS
    address n = gives (chs (n / 65536) (n / 256 % 256) (n % 256))

    same : (c : CHS) → FitsChs (gives c) → address (chs_word c) ≡ gives c
    same c f =
        let p : (c.cylinder * 65536 + c.head * 256 + c.sector) / 65536 ≡ c.cylinder = omega arith in
        let q : (c.cylinder * 65536 + c.head * 256 + c.sector) / 256 % 256 ≡ c.head = omega arith in
        let r : (c.cylinder * 65536 + c.head * 256 + c.sector) % 256 ≡ c.sector = omega arith in
        rw (p, q, r)

    back : (a : Said CHS) → FitsChs a → lower address refuses (packed_chs a) ≡ a
    back (gives c) f = lower-value address refuses (chs_word c) (omega arith) ∙ same c f
    back (refuses k) f = lower-upper address refuses k f
