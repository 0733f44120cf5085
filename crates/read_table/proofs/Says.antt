-- From what the parts of reading say to what reading says. Assumes nothing.
use mathlib.Core.Path.{◌≡◌, refl, sym, ap, ◌∙◌}
use mathlib.Core.List.{List, ◌++◌}
use Rattle.std.specs.Prelude.{None, Some}
use Prim.Native.Nat.{ℕ, ◌≤◌}
use native.Mathlib.Omega.{arith}
use lib.ListN.{length, take}
use lib.Seq.{length-take-le}
use Rattle.base.specs.Said.{Said, gives, refuses, failure}
use Rattle.record_entry.specs.declared.MBRPartitionEntry.{MBRPartitionEntry}
use Rattle.record_mbr.specs.declared.MBRHeader.{MBRHeader}
use Rattle.record_mbr.specs.Mbr.{primaries, extended_of}
use Rattle.extract.specs.Disk.{Disk}
use Rattle.extract.specs.Extract.{disk_of}
use Rattle.extract.specs.Answers.{check_says, header_of}
use Rattle.extract.specs.declared.Extract.{Extract}
use Rattle.extract.proofs.Disk.{size_of, width_of}
use Rattle.table.specs.declared.LogicalPartition.{LogicalPartition}
use Rattle.table.specs.declared.MBR.{MBR}
use Rattle.table.specs.Table.{parts, slots}
use Rattle.chain.specs.Chain.{view, Link, logicals_of}
use Rattle.chain.specs.Walk.{first_link_of, rebuilt}
use Rattle.chain.proofs.Slots.{rebuilt-long, rebuilt-parts}
use Rattle.read_align.specs.Align.{used_starts, alignment}
use Rattle.read_table.specs.Read.{Table, with_chain, read, read_says, table_of, table_read, table_for}
use Rattle.read_header.specs.Header.{header_on}
use Rattle.read_align.specs.Starts.{starts_found}

-- a table that is read, or a refusal
pub read-refused : (s : Said Table) (k : ℕ) → refuses k ≡ table_read s → failure s ≡ Some k
read-refused (gives t) k h = let w : ◌≡◌ {A = ℕ} 0 1 = cc in absurd (omega arith)
read-refused (refuses j) k h =
    let e : k ≡ j = cc in
    ap Some (sym e)

pub read-given : (s : Said Table) (t : MBR) → gives t ≡ table_read s → (failure s ≡ None) × (t ≡ table_for s)
read-given (gives u) t h = (refl, cc)
read-given (refuses j) t h = let w : ◌≡◌ {A = ℕ} 0 1 = cc in absurd (omega arith)

pub read-bad : (x : List ℕ) (k : ℕ) → refuses k ≡ check_says x → refuses k ≡ read_says x
unfolding read_says
read-bad x k e = rw (← e)

pub read-good : (x : List ℕ) (e : Extract) → gives e ≡ check_says x → read (disk_of x) ≡ read_says x
unfolding read_says
read-good x e q = rw (← q)

-- the header is refused, or leads to the chain
pub head-refused : (d : Disk) (k : ℕ) → refuses k ≡ header_on d → refuses k ≡ read d
unfolding read
head-refused d k q = rw (← q)

pub head-given : (d : Disk) (h : MBRHeader) → gives h ≡ header_on d → with_chain d h ≡ read d
unfolding read
head-given d h q = rw (← q)

-- the chain is refused, or leads to the alignment
module _ (d : Disk) (h : MBRHeader) where
  pub chain-refused : (k : ℕ) → refuses k ≡ logicals_of (view d) (extended_of (primaries h)) → refuses k ≡ with_chain d h
  unfolding with_chain
  chain-refused k q = rw (← q)

  module _ (ls : List LogicalPartition) (q : gives ls ≡ logicals_of (view d) (extended_of (primaries h))) where
    pub align-refused : (k : ℕ) → refuses k ≡ alignment (used_starts (primaries h ++ parts ls)) → refuses k ≡ with_chain d h
    unfolding with_chain
    align-refused k a = rw (← q, ← a)

    align-given : (a : ℕ) → gives a ≡ alignment (used_starts (primaries h ++ parts ls))
        → gives (record { width = d.width; size = d.size; header = h; logicals = ls; align = a }) ≡ with_chain d h
    unfolding with_chain
    align-given a e = rw (← q, ← e)

-- the table by value
abbrev made : ℕ → ℕ → MBRHeader → List LogicalPartition → ℕ → ℕ → MBR
made w d h ls n a =
    record {
      sector_size = w;
      header = h;
      logical_partitions = ls;
      count = n;
      align = a;
      cylinders = 0;
      heads = 0;
      sectors = 0;
      disk_size = d;
    }

made-of : (d : Disk) (h : MBRHeader) (ls : List LogicalPartition) (a : ℕ)
    → made d.width d.size h (slots ls) (length ls) a ≡ table_of (record { width = d.width; size = d.size; header = h; logicals = ls; align = a })
unfolding table_of
made-of d h ls a = refl

-- the partitions of the records of a chain that was read
module _ (x : List ℕ) (h : MBRHeader) (is : List ℕ) (m : ℕ) (few : m ≤ length is)
    (q : gives (rebuilt x (first_link_of (extended_of (primaries h))) (take m is)) ≡ logicals_of (view (disk_of x)) (extended_of (primaries h))) where
  abbrev k : Link
  k = first_link_of (extended_of (primaries h))

  abbrev ls : List LogicalPartition
  ls = rebuilt x k (take m is)

  starts : (s : Said ℕ) → s ≡ alignment (starts_found x h (take m is)) → s ≡ alignment (used_starts (primaries h ++ parts ls))
  starts s e = e ∙ ap (λ (z : List MBRPartitionEntry). alignment (used_starts (primaries h ++ z))) (sym (rebuilt-parts x k (take m is)))

  pub table-refused : (r : ℕ) → refuses r ≡ alignment (starts_found x h (take m is)) → refuses r ≡ table_read (with_chain (disk_of x) h)
  table-refused r e = ap table_read (align-refused (disk_of x) h ls q r (starts (refuses r) e))

  pub table-given : (y : Extract) (a : ℕ) → y ≡ header_of x → gives a ≡ alignment (starts_found x h (take m is))
      → gives (made y.sector_size y.disk_size h (slots ls) m a) ≡ table_read (with_chain (disk_of x) h)
  table-given y a p e =
      let n : length ls ≡ m = rebuilt-long x k (take m is) ∙ length-take-le m is few in
      ap (λ (z : Extract). gives (made z.sector_size z.disk_size h (slots ls) m a)) p
      ∙ (λ i. gives (made (sym (width_of x) i) (sym (size_of x) i) h (slots ls) (sym n i) a))
      ∙ ap gives (made-of (disk_of x) h ls a)
      ∙ ap table_read (align-given (disk_of x) h ls q a (starts (gives a) e))
