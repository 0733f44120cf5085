-- What is printed for what was read. Assumes nothing.
use mathlib.Core.Path.{◌≡◌}
use mathlib.Core.List.{List}
use Rattle.table.specs.declared.MBR.{MBR}
use Prim.Native.Nat.{ℕ}
use native.Mathlib.Omega.{arith}
use Rattle.base.specs.Said.{Said, gives, refuses}
use Rattle.read_table.specs.Read.{Table, read_says, table_of, table_read}
use Rattle.read_listing.specs.Listing.{said_text, listing, table_text}
use Rattle.read_listing.specs.Words.{refused_text}

text-refused : (s : Said Table) (k : ℕ) → refuses k ≡ table_read s → said_text s ≡ refused_text k
text-refused (gives t) k h = let w : ◌≡◌ {A = ℕ} 0 1 = cc in absurd (omega arith)
text-refused (refuses j) k h =
    let e : k ≡ j = cc in
    rw e

text-table : (s : Said Table) (t : MBR) → gives t ≡ table_read s → said_text s ≡ table_text t
text-table (gives u) t h =
    let e : t ≡ table_of u = cc in
    rw e
text-table (refuses j) t h = let w : ◌≡◌ {A = ℕ} 0 1 = cc in absurd (omega arith)

pub listing-refused : (x : List ℕ) (k : ℕ) → refuses k ≡ table_read (read_says x) → listing x ≡ refused_text k
unfolding listing
listing-refused x k h = text-refused (read_says x) k h

pub listing-table : (x : List ℕ) (t : MBR) → gives t ≡ table_read (read_says x) → listing x ≡ table_text t
unfolding listing
listing-table x t h = text-table (read_says x) t h
