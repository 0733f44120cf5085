-- CHS addresses: cylinder, head, sector. Assumes nothing.
use Rattle.std.specs.Prelude.{ℕ, ◌+◌, ◌*◌, ◌-◌, ◌/◌, ◌%◌, ◌<◌, List, [], ◌∷◌, Bool, not, ◌&&◌, get_or, ltb, leb, eqb}
use Rattle.base.specs.Said.{Said}
use Rattle.base.specs.Checks.{Check, ◌!◌, answer}
use Rattle.record_chs.specs.declared.CHS.{CHS}

-- an address (rule C1)
abbrev pub chs : ℕ → ℕ → ℕ → CHS
chs c h s = record { cylinder = c; head = h; sector = s }

-- 0/0/0 (rule C1)
abbrev pub no_chs : CHS
no_chs = chs 0 0 0

-- the three bytes: head; (cylinder/256 mod 4)×64 + sector mod 64; cylinder mod 256 (rules C18 and Z26)
abbrev pub chs_bytes : CHS → List ℕ
chs_bytes c = c.head ∷ (c.cylinder / 256 % 4 * 64 + c.sector % 64) ∷ (c.cylinder % 256) ∷ []

-- the address in three bytes (rules C20 and Z26)
abbrev pub chs_of : List ℕ → CHS
chs_of bs = chs (get_or bs 1 0 / 64 * 256 + get_or bs 2 0) (get_or bs 0 0) (get_or bs 1 0 % 64)

-- an address that three bytes can hold
pub record ChsOk (c : CHS) : Type 0 where
  pub cylinder : c.cylinder < 1024
  pub head : c.head < 256
  pub sector : c.sector < 64

-- the address of a sector, on a disk with so many heads and sectors in a track (rule C4)
abbrev pub address_of : ℕ → ℕ → ℕ → CHS
address_of lba heads sectors =
    chs (lba / (heads * sectors)) (lba % (heads * sectors) / sectors) (lba % (heads * sectors) % sectors + 1)

-- the cylinder that begins at a sector above 0, or the next one (rule C8)
abbrev pub next_cylinder : ℕ → ℕ → ℕ → ℕ
next_cylinder lba heads sectors = (lba - 1) / (heads * sectors) + 1

-- zero heads or sectors 7; cylinder above 1,023 13; above the disk's 14 (rules C5 to C7)
abbrev pub exact_checks : ℕ → ℕ → ℕ → ℕ → List Check
exact_checks lba cylinders heads sectors =
    (7 ! not (eqb (heads * sectors) 0)) ∷ (13 ! leb (lba / (heads * sectors)) 1023) ∷ (14 ! leb (lba / (heads * sectors)) cylinders) ∷ []

-- from_lba_exact
abbrev pub exact : ℕ → ℕ → ℕ → ℕ → Said CHS
exact lba cylinders heads sectors = answer (exact_checks lba cylinders heads sectors) (address_of lba heads sectors)

-- from_lba_aligned: sector 0, zero heads or sectors 7; then as above (rules C5 to C7)
abbrev pub aligned : ℕ → ℕ → ℕ → ℕ → Said CHS
aligned lba cylinders heads sectors =
    answer
    ((7 ! not (eqb lba 0)) ∷ (7 ! not (eqb (heads * sectors) 0)) ∷ (13 ! leb (next_cylinder lba heads sectors) 1023)
    ∷ (14 ! leb (next_cylinder lba heads sectors) cylinders) ∷ [])
    (chs (next_cylinder lba heads sectors) 0 1)

-- the sector after the one that an address names (rule C13)
abbrev pub behind_lba : CHS → ℕ → ℕ → ℕ
behind_lba c heads sectors = c.cylinder * (heads * sectors) + c.head * sectors + c.sector

-- to_lba: 7 exactly when the sum before the minus one is 0 (rules C13 and Z26)
abbrev pub lba_of : CHS → ℕ → ℕ → Said ℕ
lba_of c heads sectors = answer ((7 ! not (eqb (behind_lba c heads sectors) 0)) ∷ []) (behind_lba c heads sectors - 1)

-- all three are 0 (rule C1)
abbrev pub is_empty : CHS → Bool
is_empty c = eqb c.cylinder 0 && (eqb c.head 0 && eqb c.sector 0)

-- an address that a disk of this geometry has (rule C15)
abbrev pub is_valid : CHS → ℕ → ℕ → ℕ → Bool
is_valid c cylinders heads sectors =
    not (eqb c.sector 0) && (leb c.sector sectors && (ltb c.head heads && ltb c.cylinder cylinders))
