-- Places and sizes over the list of free runs. Assumes nothing.
use Rattle.std.specs.Prelude.{ℕ, ◌+◌, ◌-◌, ◌*◌, ◌/◌, max, List, [], ◌∷◌, eqb, ltb, leb}
use Rattle.std.specs.Prelude.{Option, None, Some}
use Rattle.base.specs.Pick.{pick}
use Rattle.base.specs.Said.{Said, gives, refuses, and_then}
use Rattle.base.specs.Checks.{◌!◌, answer}
use Rattle.record_entry.specs.declared.MBRPartitionEntry.{MBRPartitionEntry}
use Rattle.table.specs.declared.MBR.{MBR}
use Rattle.table_lookup.specs.Numbers.{entry_of}
use Rattle.table_free.specs.declared.Run.{Run}
use Rattle.table_place.specs.declared.Rule.{Rule}
use Rattle.table_place.specs.declared.Rule.TheVariants.{First, Last, Smallest}
use Rattle.table_free.specs.Free.{u32, free}

-- rule Q1: the runs that are long enough
unfoldable pub roomy : ℕ → List Run → List Run
roomy size [] = []
roomy size (r ∷ rs) = pick (leb size r.length) (r ∷ roomy size rs) (roomy size rs)

abbrev pub first_run : List Run → Option Run
first_run [] = None
first_run (r ∷ rs) = Some r

abbrev pub last_run : List Run → Option Run
last_run [] = None
last_run (r ∷ []) = Some r
last_run (r ∷ s ∷ rs) = last_run (s ∷ rs)

-- rule Q1: the first of the smallest
abbrev pub smaller : Run → Option Run → Run
smaller r None = r
smaller r (Some s) = pick (leb r.length s.length) r s

abbrev pub smallest_of : List Run → Option Run
smallest_of [] = None
smallest_of (r ∷ rs) = Some (smaller r (smallest_of rs))

abbrev pub chosen : Rule → List Run → Option Run
chosen First rs = first_run rs
chosen Last rs = last_run rs
chosen Smallest rs = smallest_of rs

-- the best so far against the runs that follow
abbrev pub prefer : Rule → Run → Run → Run
prefer First b r = b
prefer Last b r = r
prefer Smallest b r = pick (ltb r.length b.length) r b

abbrev pub preferred : Rule → Option Run → List Run → Option Run
preferred rule o [] = o
preferred rule None (r ∷ rs) = preferred rule (Some r) rs
preferred rule (Some b) (r ∷ rs) = preferred rule (Some (prefer rule b r)) rs

-- rule Q1
abbrev pub start_of : Option Run → Option ℕ
start_of None = None
start_of (Some r) = Some r.start

-- rule Q3: as far right in the run as the alignment lets it
abbrev pub rightmost : ℕ → ℕ → Option Run → Option ℕ
rightmost align size None = None
rightmost align size (Some r) = Some ((r.start + r.length - size) / align * align)

-- rules Q1 and Q3: the places in a list of runs
abbrev pub start_by : Rule → ℕ → Said (List Run) → Said (Option ℕ)
start_by rule size v = and_then v (λ rs. gives (start_of (chosen rule (roomy size rs))))

abbrev pub last_by : ℕ → ℕ → Said (List Run) → Said (Option ℕ)
last_by align size v = and_then v (λ rs. gives (rightmost align size (chosen Last (roomy size rs))))

abbrev pub first_place : MBR → ℕ → Said (Option ℕ)
first_place t size = start_by First size (free t)

abbrev pub last_place : MBR → ℕ → Said (Option ℕ)
last_place t size = last_by t.align size (free t)

abbrev pub optimal_place : MBR → ℕ → Said (Option ℕ)
optimal_place t size = start_by Smallest size (free t)

-- rule Q10: the largest size in whole alignments
unfoldable pub largest : ℕ → List Run → ℕ
largest align [] = 0
largest align (r ∷ rs) = max (r.length / align * align) (largest align rs)

-- rule Q10: 16 if there is no run
abbrev pub or_sixteen : ℕ → List Run → Said ℕ
or_sixteen align [] = refuses 16
or_sixteen align (r ∷ rs) = gives (largest align (r ∷ rs))

abbrev pub size_by : ℕ → Said (List Run) → Said ℕ
size_by align v = and_then v (or_sixteen align)

abbrev pub maximum_size : MBR → Said ℕ
maximum_size t = size_by t.align (free t)

-- rule Q13: the length of the first run that starts at p; 0 if there is none
unfoldable pub length_at : ℕ → List Run → ℕ
length_at p [] = 0
length_at p (r ∷ rs) = pick (eqb r.start p) r.length (length_at p rs)

-- rule Q13: start + sectors is formed only if there is a run
abbrev pub grown : MBRPartitionEntry → List Run → Said ℕ
grown e [] = gives e.sectors
grown e (r ∷ rs) =
    answer ((7 ! ltb (e.starting_lba + e.sectors) u32) ∷ (7 ! ltb (e.sectors + length_at (e.starting_lba + e.sectors) (r ∷ rs)) u32) ∷ [])
    (e.sectors + length_at (e.starting_lba + e.sectors) (r ∷ rs))

-- rule Q14: 15 if there is no such partition
abbrev pub grown_by : Option MBRPartitionEntry → List Run → Said ℕ
grown_by None rs = refuses 15
grown_by (Some e) rs = grown e rs

-- free runs' refusals before those of the lookup
abbrev pub growth : Said (Option MBRPartitionEntry) → Said (List Run) → Said ℕ
growth g v = and_then v (λ rs. and_then g (λ o. grown_by o rs))

abbrev pub maximum_for : MBR → ℕ → Said ℕ
maximum_for t i = and_then (free t) (grown_by (entry_of t i))
