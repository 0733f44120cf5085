-- The scope document's numbers that are marked with a star: one table, a row for each. Assumes nothing.
use Rattle.std.specs.Prelude.{ℕ, Bool, true, false, not, ◌&&◌, List, [], ◌∷◌, eqb}
use Rattle.base.specs.All.{allb}
use Rattle.read_align.specs.Align.{alignment}
use Rattle.base.specs.Said.{Said, gives, refuses}
use Rattle.record_chs.specs.declared.CHS.{CHS}
use Rattle.record_chs.specs.Chs.{chs, chs_bytes, exact, aligned, is_valid}
use Rattle.std.specs.Prelude.{Option, None, Some}
use Rattle.table_free.specs.declared.Run.{Run}
use Rattle.table_free.specs.Free.{free}
use Rattle.table_place.specs.Place.{first_place, last_place}
use Rattle.starred.specs.Disks.{plain_disk, K, asked, pushed_on_k}

-- equal lists
abbrev pub same : List ℕ → List ℕ → Bool
same [] [] = true
same [] (y ∷ ys) = false
same (x ∷ xs) [] = false
same (x ∷ xs) (y ∷ ys) = eqb x y && same xs ys

-- the three numbers of an address
abbrev pub address : CHS → List ℕ
address c = c.cylinder ∷ c.head ∷ c.sector ∷ []

-- the address is given
abbrev pub address_is : Said CHS → CHS → Bool
address_is (gives c) d = same (address c) (address d)
address_is (refuses k) d = false

-- the refusal is given
abbrev pub no : {A : Type 0} → Said A → ℕ → Bool
no (gives a) k = false
no (refuses j) k = eqb j k

-- the runs are given: start and length of each
abbrev pub flat : List Run → List ℕ
flat [] = []
flat (r ∷ rs) = r.start ∷ r.length ∷ flat rs

abbrev pub runs : Said (List Run) → List ℕ → Bool
runs (gives rs) ns = same (flat rs) ns
runs (refuses k) ns = false

-- the place is given, or none is
abbrev pub place_is : Said (Option ℕ) → List ℕ → Bool
place_is (gives None) ns = same [] ns
place_is (gives (Some p)) ns = same (p ∷ []) ns
place_is (refuses k) ns = false

-- the number is given
abbrev pub number_is : Said ℕ → ℕ → Bool
number_is (gives n) m = eqb n m
number_is (refuses k) m = false

abbrev pub rows : List Bool
rows =
    -- CHS bytes
    same (chs_bytes (chs 0 32 33)) (0x20 ∷ 0x21 ∷ 0x00 ∷ [])
    ∷ same (chs_bytes (chs 514 3 5)) (0x03 ∷ 0x85 ∷ 0x02 ∷ [])
    ∷ same (chs_bytes (chs 1023 254 63)) (0xFE ∷ 0xFF ∷ 0xFF ∷ [])
    -- exact, 1023 cylinders, 255 heads, 63 sectors
    ∷ address_is (exact 2048 1023 255 63) (chs 0 32 33)
    ∷ address_is (exact 16450559 1023 255 63) (chs 1023 254 63)
    ∷ not (is_valid (chs 1023 254 63) 1023 255 63)
    ∷ no (exact 16450560 1023 255 63) 13
    -- 10 cylinders, 2 heads, 3 sectors
    ∷ address_is (exact 60 10 2 3) (chs 10 0 1)
    ∷ no (exact 66 10 2 3) 14
    ∷ address_is (aligned 6 10 2 3) (chs 1 0 1)
    ∷ address_is (aligned 7 10 2 3) (chs 2 0 1)
    -- alignment
    ∷ number_is (alignment (63 ∷ [])) 63
    ∷ number_is (alignment (32768 ∷ [])) 16384
    ∷ number_is (alignment (0 ∷ 63 ∷ [])) 63
    ∷ no (alignment (0 ∷ [])) 7
    -- D 10,000: free runs and places
    ∷ runs (asked plain_disk free) (4096 ∷ 5904 ∷ [])
    ∷ place_is (asked plain_disk (λ t. last_place t 1000)) (8192 ∷ [])
    ∷ place_is (asked plain_disk (λ t. first_place t 5905)) []
    -- K: free runs; a careful push that is not refused and stores at 8,192, then 4,096
    ∷ runs (asked K free) (2048 ∷ 2048 ∷ 6144 ∷ 4096 ∷ 12288 ∷ 8192 ∷ [])
    ∷ same (pushed_on_k 8192 4096) (0 ∷ 8192 ∷ 4096 ∷ [])
    ∷ []

-- every row holds
abbrev pub hold_each : List Bool → Bool
hold_each bs = allb (λ b. b) bs
