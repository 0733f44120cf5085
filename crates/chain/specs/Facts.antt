-- The facts that reading a chain amounts to: one about each logical partition and the one that follows it. Assumes nothing.
use Rattle.std.specs.Prelude.{ℕ, ◌+◌, ◌-◌, ◌^◌, ◌≤◌, ◌<◌, List, [], ◌∷◌, ◌≡◌, length}
use Rattle.std.specs.Prelude.{Option, None, Some}
use Rattle.base.specs.Said.{Said, gives, refuses}
use Rattle.base.specs.Row.{Row}
use Rattle.record_entry.specs.declared.MBRPartitionEntry.{MBRPartitionEntry}
use Rattle.record_ebr.specs.declared.Kept.{Kept}
use Rattle.record_ebr.specs.declared.EBRHeader.{EBRHeader}
use Rattle.extract.specs.Disk.{Disk}
use Rattle.table.specs.declared.LogicalPartition.{LogicalPartition}
use Rattle.table.specs.Table.{most}
use Rattle.chain.specs.Chain.{view, Link, first_link, link_of, starting_at, leads_to, by_link}

-- what an EBR says of its own partition, whose start counts from the EBR
pub record Body : Type 0 where
  pub kept : Kept
  pub part : MBRPartitionEntry

-- where it leads: an end, or a place counted from the extended partition's start and the link to it
pub data Next : Type 0 where
  stop : Next
  to : ℕ → Link → Next

-- a sector seen as an EBR
pub data View : Type 0 where
  bad : ℕ → View
  ebr : Body → Next → View

-- where a link entry leads
unfoldable pub next_of : MBRPartitionEntry → Next
next_of e = by_link stop (λ r. to r (link_of e)) (leads_to e.starting_lba)

abbrev pub body_in : EBRHeader → Body
body_in h = record { kept = h.kept; part = h.partition_1 }

abbrev pub viewed : Said EBRHeader → View
viewed (gives h) = ebr (body_in h) (next_of h.partition_2)
viewed (refuses k) = bad k

abbrev pub saw : (ℕ → Said EBRHeader) → ℕ → View
saw v a = viewed (v a)

-- the sectors of a disk, seen as EBRs
abbrev pub seen : Disk → ℕ → View
seen d = saw (view d)

-- where a logical partition's EBR is, the link to it, and what its EBR says of it
abbrev pub at : LogicalPartition → ℕ
at l = l.absolute_ebr_lba.0

abbrev pub start : LogicalPartition → ℕ
start l = l.partition.starting_lba

unfoldable pub link_in : LogicalPartition → Link
link_in l = record { sectors = l.ebr_sectors; first = l.ebr_first_chs; last = l.ebr_last_chs }

unfoldable pub body_of : LogicalPartition → Body
body_of l = record { kept = l.kept; part = starting_at (start l - at l) l.partition }

-- where the EBR before n leads
abbrev pub leads : ℕ → Option LogicalPartition → Next
leads X None = stop
leads X (Some m) = to (at m - X) (link_in m)

-- l's sector says l, and leads to what follows
abbrev pub Held : (ℕ → View) → ℕ → LogicalPartition → Option LogicalPartition → Type 0
Held w X l n = w (at l) ≡ ebr (body_of l) (leads X n)

abbrev pub Before : LogicalPartition → Option LogicalPartition → Type 0
Before l None = Unit {0}
Before l (Some m) = at l < at m

pub record Plain (X : ℕ) (l : LogicalPartition) (n : Option LogicalPartition) : Type 0 where
  pub inside : X ≤ at l
  pub after : at l ≤ start l
  pub fits : start l < 2 ^ 32
  pub before : Before l n

-- the first is the one at X + rel, to which k leads
abbrev pub Begins : ℕ → ℕ → Link → List LogicalPartition → Type 0
Begins X rel k [] = ⊥
Begins X rel k (l ∷ ls) = (at l ≡ X + rel) × (link_in l ≡ k)

-- the chain from X + rel on, of at most m EBRs
pub record Rows (w : ℕ → View) (X m rel : ℕ) (k : Link) (ls : List LogicalPartition) : Type 0 where
  pub begins : Begins X rel k ls
  pub held : Row (Held w X) ls None
  pub plain : Row (Plain X) ls None
  pub few : length ls ≤ m

-- the chain of an extended entry
abbrev pub Chained : (ℕ → View) → MBRPartitionEntry → List LogicalPartition → Type 0
Chained w e ls = Rows w e.starting_lba most 0 (first_link e) ls

-- a sector that is no EBR
abbrev pub Empty : View → Type 0
Empty (bad k) = Unit {0}
Empty (ebr b n) = ⊥

-- the logical partitions of an extended entry
abbrev pub Holds : (ℕ → View) → Option MBRPartitionEntry → List LogicalPartition → Type 0
Holds w None [] = Unit {0}
Holds w None (l ∷ ls) = ⊥
Holds w (Some e) [] = Empty (w e.starting_lba)
Holds w (Some e) (l ∷ ls) = Chained w e (l ∷ ls)
