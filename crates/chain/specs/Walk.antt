-- What the chain steps carry: the places of EBRs and the numbers of their records, and the partitions made of them. Assumes nothing.
use Rattle.table.specs.declared.DiskLba.{DiskLba}
use Rattle.table.specs.declared.LinkLba.{LinkLba}
use Rattle.base.specs.declared.Refusal.{Refusal}
use Rattle.std.specs.Prelude.{ℕ, ◌+◌, ◌-◌, ◌^◌, ◌<◌, List, [], ◌∷◌, map, Bool, ◌≡◌, eqb, ltb, length, get_or, Result, Ok, Err}
use Rattle.std.specs.Prelude.{Option, None, Some}
use Rattle.base.specs.Pick.{pick}
use Rattle.base.specs.Said.{refusal_code, Said, gives, refuses, and_then}
use Rattle.record_entry.specs.declared.MBRPartitionEntry.{MBRPartitionEntry}
use Rattle.record_entry.specs.Entry.{entry_at, no_entry}
use Rattle.record_ebr.specs.declared.EBRHeader.{EBRHeader}
use Rattle.record_ebr.specs.Ebr.{ebr_of}
use Rattle.extract.specs.Extract.{count, disk_sectors, lba_at, record_at, record_of}
use Rattle.table.specs.declared.LogicalPartition.{LogicalPartition}
use Rattle.chain.specs.declared.Head.{Head}
use Rattle.chain.specs.declared.Met.{Met}
use Rattle.chain.specs.declared.Met.TheVariants.{Refused, Absent, Ebr}
use Rattle.chain.specs.Chain.{Link, first_link, link_of, starting_at, placed, chain}
use Rattle.chain.specs.Facts.{at}

-- a place on a disk of d sectors: none at or past its end
abbrev pub place_on : ℕ → ℕ → Option ℕ
place_on d a = pick (ltb a d) (Some a) None

abbrev pub reached_said : Option DiskLba → Option ℕ
reached_said None = None
reached_said (Some a) = Some a.0

abbrev pub follows_said : Result (Option LinkLba) Refusal → Said (Option ℕ)
follows_said (Ok None) = gives None
follows_said (Ok (Some r)) = gives (Some r.0)
follows_said (Err r) = refuses (refusal_code r)

-- the EBR of a head
abbrev pub ebr_in : List ℕ → Head → EBRHeader
ebr_in x h = ebr_of (record_at x h.number)

-- what is met at a sector: a refusal, a sector without a record, which is blank, or the EBR of a record
abbrev pub met_said : List ℕ → Met → Said EBRHeader
met_said x (Refused r) = refuses (refusal_code r)
met_said x (Absent a) = refuses 3
met_said x (Ebr h) = gives (ebr_in x h)

-- the extract has no record for sector a
abbrev pub absent : List ℕ → ℕ → Bool
absent x a = eqb (length (record_of x a)) 0

-- sector a, if it is on the disk and the extract has no record for it
abbrev pub lack_of : List ℕ → ℕ → Option ℕ
lack_of x a = pick (ltb a (disk_sectors x)) (pick (absent x a) (Some a) None) None

abbrev pub lack_said : Met → Option ℕ
lack_said (Refused r) = None
lack_said (Absent a) = Some a.0
lack_said (Ebr h) = None

-- it is the head of the extract's record for sector a
pub record HeadAt (x : List ℕ) (a : ℕ) (h : Head) : Type 0 where
  pub inside : h.number < count x
  pub listed : lba_at x h.number ≡ a
  pub at : h.at.0 ≡ a
  pub start : h.start ≡ (ebr_in x h).partition_1.starting_lba
  pub link : h.link.0 ≡ (ebr_in x h).partition_2.starting_lba

abbrev pub MetAt : List ℕ → ℕ → Met → Type 0
MetAt x a (Refused r) = Unit {0}
MetAt x a (Absent b) = Unit {0}
MetAt x a (Ebr h) = HeadAt x a h

-- the place of an EBR in front of those behind it
abbrev pub before : ℕ → Said (List ℕ) → Said (List ℕ)
before a s = and_then s (λ ps. gives (a ∷ ps))

-- the places of logical partitions that are read
abbrev pub places_of : Said (List LogicalPartition) → Said (List ℕ)
places_of s = and_then s (λ ls. gives (map at ls))

-- the places of the EBRs of a chain: h at X + rel and those behind it, at most m; the link to h does not matter
unfoldable pub places : (ℕ → Said EBRHeader) → ℕ → ℕ → ℕ → EBRHeader → Said (List ℕ)
places v X m rel h = places_of (chain v X m rel (first_link no_entry) h)

-- those of the chain at a link's place
abbrev pub places_from : (ℕ → Said EBRHeader) → ℕ → ℕ → ℕ → Said (List ℕ)
places_from v X m r = and_then (v (X + r)) (places v X m r)

-- the number of EBRs, p of them in front of those that are read
abbrev pub counted : ℕ → Said (List ℕ) → Said ℕ
counted p s = and_then s (λ ps. gives (p + length ps))

-- a record number of the extract, of an EBR whose partition's start counted from the disk's fits
pub record Fit (x : List ℕ) (i : ℕ) : Type 0 where
  pub inside : i < count x
  pub fits : (entry_at (record_at x i) 446).starting_lba + lba_at x i < 2 ^ 32

-- the numbers begin with those of the records at these places
abbrev pub Noted : List ℕ → List ℕ → List ℕ → Type 0
Noted x is [] = Unit {0}
Noted x [] (a ∷ ps) = ⊥
Noted x (i ∷ is) (a ∷ ps) = Fit x i × (lba_at x i ≡ a) × Noted x is ps

abbrev pub NotedAll : List ℕ → List ℕ → Said (List ℕ) → Type 0
NotedAll x is (gives ps) = Noted x is ps
NotedAll x is (refuses k) = Unit {0}

-- the numbers all fit
abbrev pub AllFit : List ℕ → List ℕ → Type 0
AllFit x is = (j : ℕ) → j < length is → Fit x (get_or is j 0)

-- the link to the first EBR, if there is an extended entry
abbrev pub first_link_of : Option MBRPartitionEntry → Link
first_link_of None = first_link no_entry
first_link_of (Some e) = first_link e

-- the entry of the partition of record number i, its start counted from the disk's
abbrev pub part_in : List ℕ → ℕ → MBRPartitionEntry
part_in x i = starting_at ((entry_at (record_at x i) 446).starting_lba + lba_at x i) (entry_at (record_at x i) 446)

-- the logical partition of record number i, to which k leads
abbrev pub lifted : List ℕ → Link → ℕ → LogicalPartition
lifted x k i = placed (lba_at x i) k (ebr_of (record_at x i))

-- the link in record number i
abbrev pub link_at : List ℕ → ℕ → Link
link_at x i = link_of (entry_at (record_at x i) 462)

-- the logical partitions of these records, to the first of which k leads, each with the link to the next
unfoldable pub rebuilt : List ℕ → Link → List ℕ → List LogicalPartition
rebuilt x k [] = []
rebuilt x k (i ∷ is) = lifted x k i ∷ rebuilt x (link_at x i) is

-- the link to number j of them
abbrev pub link_to : List ℕ → Link → List ℕ → ℕ → Link
link_to x k is j = pick (eqb j 0) k (link_at x (get_or is (j - 1) 0))
