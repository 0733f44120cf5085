-- Free runs, as the crate finds them: positions, sorted, taken in pairs. Assumes nothing.
-- But for 6, which is tested first, every refusal is a 7; so it does not matter which step out of range the crate meets first, only that it meets one.
use Rattle.std.specs.Prelude.{Err}
use Rattle.base.specs.declared.Refusal.{Refusal}
use Rattle.std.specs.Prelude.{ℕ, IfOk, ◌+◌, ◌-◌, ◌*◌, ◌^◌, ◌<◌, List, [], ◌∷◌, ◌++◌, map, Bool, true, ◌&&◌, ◌≡◌, ltb, leb, length, take, replicate, Result, Ok}
use Rattle.std.specs.Prelude.{Option, None, Some}
use Rattle.base.specs.Pick.{pick}
use Rattle.base.specs.Said.{refusal_code, Said, gives, refuses, and_then, answered}
use Rattle.base.specs.Checks.{◌!◌, checked, answer}
use Rattle.base.specs.All.{allb}
use Rattle.record_entry.specs.declared.MBRPartitionEntry.{MBRPartitionEntry}
use Rattle.record_entry.specs.Entry.{used}
use Rattle.record_mbr.specs.Mbr.{primaries}
use Rattle.table.specs.declared.LogicalPartition.{LogicalPartition}
use Rattle.table.specs.declared.MBR.{MBR}
use Rattle.table.specs.Table.{count_check, most, logicals, extended_in, rounded}
use Rattle.table_free.specs.Sort.{sort}
use Rattle.table_free.specs.declared.Run.{Run}
use Rattle.table_free.specs.declared.Runs.{Runs}
use Rattle.table_free.specs.declared.Points.{Points}

abbrev pub run : ℕ → ℕ → Run
run start n = record { start = start; length = n }

-- numbers of 32 bits are below this
abbrev pub u32 : ℕ
u32 = 2 ^ 32

-- rule F3: a used entry as a run, its start counted from `at`; an unused one is none
abbrev pub zone : ℕ → MBRPartitionEntry → List Run
zone at e = pick (used e.sys) (run (at + e.starting_lba) e.sectors ∷ []) []

-- rule F3
unfoldable pub primary_zones : List MBRPartitionEntry → List Run
primary_zones [] = []
primary_zones (e ∷ es) = zone 0 e ++ primary_zones es

-- rule F25: the crate adds the EBR's place to a start that is absolute already (rule Z55)
unfoldable pub logical_zones : List LogicalPartition → List Run
logical_zones [] = []
logical_zones (l ∷ ls) = zone l.absolute_ebr_lba.0 l.partition ++ logical_zones ls

-- rule F3: the first and the last sector of each
unfoldable pub ends : List Run → List ℕ
ends [] = []
ends (z ∷ zs) = z.start ∷ (z.start + z.length - 1) ∷ ends zs

-- rule F5: start + sectors is a u32, and one can be taken off it
abbrev pub whole : Run → Bool
whole z = ltb 0 (z.start + z.length) && ltb (z.start + z.length) u32

-- the positions of an area (rule F21)
abbrev pub positions : ℕ → ℕ → List Run → Said (List ℕ)
positions from to zs = answer ((7 ! allb whole zs) ∷ (7 ! ltb to u32) ∷ []) (from ∷ ends zs ++ (to ∷ []))

-- rules F3 and F12: what lies between the two positions of each pair (a, b): start a + 1, length b − a − 1
unfoldable pub pairs : List ℕ → List Run
pairs [] = []
pairs (a ∷ []) = []
pairs (a ∷ b ∷ ps) = run (a + 1) (b - a - 1) ∷ pairs ps

-- rule F12: b − a − 1 is a u32 for each pair of ascending positions
unfoldable pub apart : List ℕ → Bool
apart [] = true
apart (a ∷ []) = true
apart (a ∷ b ∷ ps) = ltb a b && apart ps

-- rule F14: those that are not empty
unfoldable pub kept : List Run → List Run
kept [] = []
kept (r ∷ rs) = pick (ltb 0 r.length) (r ∷ kept rs) (kept rs)

-- rule F14: the start rounded up to the alignment
abbrev pub rounded_run : ℕ → Run → Run
rounded_run align r = run (r.start + (rounded align r.start - r.start)) (r.length - (rounded align r.start - r.start))

-- rule F14
abbrev pub in_range : ℕ → Run → Bool
in_range align r = ltb (rounded align r.start) u32

-- rule F14: the free runs of ascending positions
abbrev pub runs_among : ℕ → List ℕ → Said (List Run)
runs_among align ps =
    answer ((7 ! apart ps) ∷ (7 ! allb (in_range align) (kept (pairs ps))) ∷ [])
    (kept (map (rounded_run align) (kept (pairs ps))))

-- rule F3
abbrev pub between : ℕ → Said (List ℕ) → Said (List Run)
between align v = and_then v (λ ps. runs_among align (sort ps))

-- the free runs of an area
abbrev pub area : ℕ → ℕ → ℕ → List Run → Said (List Run)
area align from to zs = between align (positions from to zs)

-- runs, and those found after them
abbrev pub joined : List Run → Said (List Run) → Said (List Run)
joined rs v = and_then v (λ ss. gives (rs ++ ss))

-- rule F21: the extended area, from X to its end
abbrev pub inner : ℕ → Option MBRPartitionEntry → List LogicalPartition → Said (List Run)
inner align None ls = gives []
inner align (Some e) ls = area align e.starting_lba (e.starting_lba + e.sectors) (logical_zones ls)

-- rule F3
abbrev pub outer : MBR → Said (List Run)
outer t = area t.align 0 t.disk_size (primary_zones (primaries t.header))

-- rules G5, F2 and F21: the free runs of a table (rule Z55)
unfoldable pub free : MBR → Said (List Run)
free t =
    checked (count_check t ∷ (7 ! ltb 0 t.align) ∷ []) refuses
    (and_then (outer t) (λ rs. joined rs (inner t.align (extended_in t) (logicals t))))

-- the most runs of a table: 5 between primary partitions, and one more than there are logical partitions between those
abbrev pub most_runs : ℕ
most_runs = most + 6

-- runs for a lent list or output: less room than all runs of a table need is refused after the rest, 19
abbrev pub for_room : ℕ → ℕ → Said (List Run) → Said (List Run)
for_room need room v = and_then v (λ rs. answer ((19 ! leb need room) ∷ []) rs)

-- runs as they travel: the slots behind them are empty runs
unfoldable pub run_list : List Run → Runs
run_list rs = record { at = rs ++ replicate (most_runs - length rs) (run 0 0); count = length rs }

-- the runs in such a list
abbrev pub runs_in : Runs → List Run
runs_in x = take x.count x.at

-- the most positions of four primary partitions, and of the logical ones: the area's two bounds, and two for each
abbrev pub most_primary_points : ℕ
most_primary_points = 2 + 2 * 4

abbrev pub most_points : ℕ
most_points = 2 + 2 * most

-- the positions collected so far
abbrev pub points_in : Points → List ℕ
points_in p = take p.count p.at

-- what a step says of them
abbrev pub points_said : Result Points Refusal → Said (List ℕ)
points_said r = and_then (answered r) (λ p. gives (points_in p))

-- what is said once an entry's are taken in
abbrev pub points_after : {A : Type 0} → Result A Refusal → Points → Said (List ℕ)
points_after r p = and_then (answered r) (λ a. gives (points_in p))

-- with those of further runs
abbrev pub more : Said (List ℕ) → List Run → Said (List ℕ)
more v zs = and_then v (λ ps. answer ((7 ! allb whole zs) ∷ []) (ps ++ ends zs))

-- with the area's end
abbrev pub closed : Said (List ℕ) → ℕ → Said (List ℕ)
closed v to = and_then v (λ ps. answer ((7 ! ltb to u32) ∷ []) (ps ++ (to ∷ [])))

-- what lies between two positions
abbrev pub gap_said : Result (Option Run) Refusal → Said (List Run)
gap_said (Ok None) = gives []
gap_said (Ok (Some r)) = gives (r ∷ [])
gap_said (Err r) = refuses (refusal_code r)

-- the positions of an entry
abbrev pub ends_said : Result (Option (ℕ × ℕ)) Refusal → Said (List ℕ)
ends_said (Ok None) = gives []
ends_said (Ok (Some (first, last))) = gives (first ∷ last ∷ [])
ends_said (Err r) = refuses (refusal_code r)

-- what an answer says: the refusal's number, or the runs
abbrev pub free_said : Result Runs Refusal → Said (List Run)
free_said r = and_then (answered r) (λ x. gives (runs_in x))

-- numbers of 32 bits
abbrev pub Below : List ℕ → Type 0
Below [] = Unit {0}
Below (p ∷ ps) = (p < u32) × Below ps

-- each run's end is such a number
abbrev pub Ended : List Run → Type 0
Ended [] = Unit {0}
Ended (r ∷ rs) = (r.start + r.length < u32) × Ended rs

-- what places and sizes may rest on where there are runs
abbrev pub Usable : ℕ → Said (List Run) → Type 0
Usable align (gives rs) = (0 < align) × Ended rs
Usable align (refuses k) = Unit {0}

-- what an answer says, whole: the refusal's number, or the runs with every slot behind them
abbrev pub Told : Result Runs Refusal → Said (List Run) → Type 0
Told r v = (free_said r ≡ v) × IfOk r (λ x. x ≡ run_list (runs_in x))
