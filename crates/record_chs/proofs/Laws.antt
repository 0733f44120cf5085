-- Laws of CHS addresses and their bytes. Assumes nothing.
use mathlib.Core.Path.{◌≡◌}
use mathlib.Core.List.{[], ◌∷◌}
use Prim.Native.Nat.{ℕ, ◌+◌, ◌*◌, ◌/◌, ◌%◌, ◌<◌}
use native.Mathlib.Omega.{arith}
use Rattle.base.specs.Bytes.{Bytes}
use Rattle.record_chs.specs.declared.CHS.{CHS}
use Rattle.record_chs.specs.Chs.{chs, chs_bytes, chs_of, ChsOk}

-- an address that three bytes can hold is read back from its bytes
pub chs-back : (c : CHS) → ChsOk c → chs_of (chs_bytes c) ≡ c
chs-back c k =
    let e : (c.cylinder / 256 % 4 * 64 + c.sector % 64) / 64 * 256 + c.cylinder % 256 ≡ c.cylinder = omega arith in
    let f : (c.cylinder / 256 % 4 * 64 + c.sector % 64) % 64 ≡ c.sector = omega arith in
    rw (e, f)

-- every three bytes are those of their address
pub bytes_back : (a b d : ℕ) → Bytes (a ∷ b ∷ d ∷ []) → chs_bytes (chs_of (a ∷ b ∷ d ∷ [])) ≡ a ∷ b ∷ d ∷ []
bytes_back a b d k =
    let e : (b / 64 * 256 + d) / 256 % 4 * 64 + b % 64 % 64 ≡ b = omega arith in
    let f : (b / 64 * 256 + d) % 256 ≡ d = omega arith in
    rw (e, f)

-- higher bits are dropped: the bytes are those of the cylinder mod 1,024 and the sector mod 64
pub bytes_low : (c : CHS) → chs_bytes c ≡ chs_bytes (chs (c.cylinder % 1024) c.head (c.sector % 64))
bytes_low c =
    let e : c.cylinder % 1024 / 256 % 4 * 64 + c.sector % 64 % 64 ≡ c.cylinder / 256 % 4 * 64 + c.sector % 64 = omega arith in
    let f : c.cylinder % 1024 % 256 ≡ c.cylinder % 256 = omega arith in
    rw (e, f)

-- what is read is in range
pub chs-ok : (a b d : ℕ) → Bytes (a ∷ b ∷ d ∷ []) → ChsOk (chs_of (a ∷ b ∷ d ∷ []))
chs-ok a b d k = omega arith

pub chs-bytes : (c : CHS) → c.head < 256 → Bytes (chs_bytes c)
chs-bytes c k = omega arith
