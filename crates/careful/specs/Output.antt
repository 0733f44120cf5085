-- Stores in lent bytes: each its LBA (4 bytes, little-endian) and a record. Assumes nothing.
use Rattle.std.specs.Prelude.{ℕ, zero, suc, List, [], ◌∷◌, length, take, drop}
use Rattle.base.specs.Bytes.{number, little}
use Rattle.base.specs.Put.{put}
use Rattle.base.specs.Said.{Said, gives, refuses, and_then}
use Rattle.extract.specs.Disk.{Store}
use Rattle.careful.specs.Careful.{Change}
use Rattle.careful_stores.specs.Stored.{store_length}
unfoldable pub use Rattle.careful_stores.specs.Stored.{store_bytes, stores_bytes}

-- the first n stores in lent bytes
unfoldable pub stores_in : List ℕ → ℕ → List Store
stores_in out zero = []
stores_in out (suc n) = record { lba = number little (take 4 out); bytes = take 512 (drop 4 out) } ∷ stores_in (drop store_length out) n

-- the lent output after a careful change: as before if it is refused, else only the stores' own bytes change (rule K27)
unfoldable pub out_after : List ℕ → Said Change → List ℕ
out_after out (refuses k) = out
out_after out (gives c) = put out 0 (stores_bytes c.stores)

-- the number of stores
abbrev pub count_of : Change → ℕ
count_of c = length c.stores

-- rule K21
abbrev pub stores_counted : Said Change → Said ℕ
stores_counted s = and_then s (λ c. gives (count_of c))
