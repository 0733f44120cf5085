-- How an address crosses as one number. Assumes nothing.
use Rattle.std.specs.Prelude.{ℕ, ◌+◌, ◌*◌, ◌<◌, ◌≤◌}
use Rattle.base.specs.Said.{Said, gives, refuses}
use Rattle.record_chs.specs.declared.CHS.{CHS}
use Rattle.abi_word.specs.Packed.{upper}

-- an address: cylinder, head, sector in 16, 8 and 8 bits (rule Z26)
abbrev pub chs_word : CHS → ℕ
chs_word c = c.cylinder * 65536 + c.head * 256 + c.sector

abbrev pub packed_chs : Said CHS → ℕ
packed_chs (gives c) = chs_word c
packed_chs (refuses k) = upper k

-- what one number can hold: an address of 16, 8 and 8 bits, a refusal's number above 0
abbrev pub FitsChs : Said CHS → Type 0
FitsChs (gives c) = (c.cylinder < 65536) × (c.head < 256) × (c.sector < 256)
FitsChs (refuses k) = 1 ≤ k
