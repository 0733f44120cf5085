-- Sound tables: rules S1 to S19 one by one in their order, each as a fact and as a test. Assumes nothing.
use Rattle.std.specs.Prelude.{ℕ, ◌+◌, ◌≤◌, ◌<◌, ◌≡◌, ◌⊎◌, Bool, true, false, not, ◌&&◌, ◌||◌, List, [], ◌∷◌, ltb, leb, eqb, get_or}
use Rattle.std.specs.Prelude.{Option, None, Some, unwrap_or}
use Rattle.base.specs.Pick.{pick}
use Rattle.base.specs.Bytes.{stands_at, signature}
use Rattle.base.specs.Said.{Said}
use Rattle.base.specs.Checks.{Check, ◌!◌, checked, answer}
use Rattle.base.specs.Row.{Row}
use Rattle.base.specs.All.{All, allb}
use Rattle.record_chs.specs.declared.CHS.{CHS}
use Rattle.record_entry.specs.declared.MBRPartitionEntry.{MBRPartitionEntry}
use Rattle.record_entry.specs.Entry.{no_entry, flag_ok, used, extended, end_of}
use Rattle.record_mbr.specs.declared.MBRHeader.{MBRHeader}
use Rattle.record_mbr.specs.Mbr.{primaries, extended_of}
use Rattle.table.specs.declared.LogicalPartition.{LogicalPartition}
use Rattle.table.specs.declared.MBR.{MBR}
use Rattle.table.specs.Table.{count_check, logicals, parts}
use Rattle.chain.specs.Facts.{at, start, Before}
use Rattle.sound.specs.Is.{Pairs, pairsb, rowb, later}

-- a table as a disk holds it: sector size, D, header, logical partitions
pub record Contents : Type 0 where
  pub width : ℕ
  pub size : ℕ
  pub header : MBRHeader
  pub logicals : List LogicalPartition

-- of a table by value
abbrev pub contents_of : MBR → Contents
contents_of t = record { width = t.sector_size; size = t.disk_size; header = t.header; logicals = logicals t }

abbrev pub primaries_of : Contents → List MBRPartitionEntry
primaries_of t = primaries t.header

abbrev pub extended_entry : Contents → Option MBRPartitionEntry
extended_entry t = extended_of (primaries_of t)

-- the extended partition's start X and end
unfoldable pub area_start : Option MBRPartitionEntry → ℕ
area_start o = (unwrap_or o no_entry).starting_lba

unfoldable pub area_end : Option MBRPartitionEntry → ℕ
area_end o = end_of (unwrap_or o no_entry)

-- rule S31: an EBR without a partition: type 0, the start on the EBR itself, no sectors
pub record Vacant (l : LogicalPartition) : Type 0 where
  pub sys : l.partition.sys ≡ 0
  pub place : start l ≡ at l
  pub sectors : l.partition.sectors ≡ 0

-- rule S31
unfoldable pub vacantb : LogicalPartition → Bool
vacantb l = eqb l.partition.sys 0 && (eqb (start l) (at l) && eqb l.partition.sectors 0)

-- where a logical partition ends; an EBR without one ends behind itself (rule S32)
unfoldable pub end : LogicalPartition → ℕ
end l = pick (vacantb l) (at l + 1) (end_of l.partition)

-- those with a partition: all, or all but a first EBR without one (rule S31)
unfoldable pub zones : List LogicalPartition → List LogicalPartition
zones [] = []
zones (l ∷ ls) = pick (vacantb l) ls (l ∷ ls)

-- rule S1: signature 55 AA
abbrev pub Signed : Contents → Type 0
Signed t = (get_or t.header.boot_signature 0 0 ≡ 0x55) × (get_or t.header.boot_signature 1 0 ≡ 0xAA)

unfoldable pub signedb : Contents → Bool
signedb t = stands_at t.header.boot_signature 0 signature

-- rule S2: every flag 00 or 80
abbrev pub Flagged : MBRPartitionEntry → Type 0
Flagged e = (e.boot ≡ 0) ⊎ (e.boot ≡ 128)

abbrev pub Flags : Contents → Type 0
Flags t = All Flagged (primaries_of t) × All Flagged (parts t.logicals)

-- rule S2
unfoldable pub flagsb : Contents → Bool
flagsb t = allb flag_ok (primaries_of t) && allb flag_ok (parts t.logicals)

-- rule S3: every CHS within 1,023 cylinders and sector 63
abbrev pub Within : CHS → Type 0
Within c = (c.cylinder ≤ 1023) × (c.sector ≤ 63)

-- rule S3
abbrev pub withinb : CHS → Bool
withinb c = leb c.cylinder 1023 && leb c.sector 63

abbrev pub IfThere : Option CHS → Type 0
IfThere None = Unit {0}
IfThere (Some c) = Within c

-- rule S3
abbrev pub if_thereb : Option CHS → Bool
if_thereb None = true
if_thereb (Some c) = withinb c

abbrev pub EntryChs : MBRPartitionEntry → Type 0
EntryChs e = Within e.first_chs × Within e.last_chs

-- rule S3
abbrev pub entry_chsb : MBRPartitionEntry → Bool
entry_chsb e = withinb e.first_chs && withinb e.last_chs

abbrev pub LogicalChs : LogicalPartition → Type 0
LogicalChs l = EntryChs l.partition × (Within l.ebr_first_chs × IfThere l.ebr_last_chs)

-- rule S3
abbrev pub logical_chsb : LogicalPartition → Bool
logical_chsb l = entry_chsb l.partition && (withinb l.ebr_first_chs && if_thereb l.ebr_last_chs)

abbrev pub Addresses : Contents → Type 0
Addresses t = All EntryChs (primaries_of t) × All LogicalChs t.logicals

unfoldable pub addressesb : Contents → Bool
addressesb t = allb entry_chsb (primaries_of t) && allb logical_chsb t.logicals

-- rules S4 and S6: each used primary starts at 1 or above, has at least 1 sector, ends by D
abbrev pub Used : MBRPartitionEntry → Type 0
Used e = used e.sys ≡ true

abbrev pub Starts : Contents → Type 0
Starts t = All (λ e. Used e → 1 ≤ e.starting_lba) (primaries_of t)

unfoldable pub startsb : Contents → Bool
startsb t = allb (λ e. not (used e.sys) || leb 1 e.starting_lba) (primaries_of t)

abbrev pub Sizes : Contents → Type 0
Sizes t = All (λ e. Used e → 1 ≤ e.sectors) (primaries_of t)

unfoldable pub sizesb : Contents → Bool
sizesb t = allb (λ e. not (used e.sys) || leb 1 e.sectors) (primaries_of t)

abbrev pub OnDisk : Contents → Type 0
OnDisk t = All (λ e. Used e → end_of e ≤ t.size) (primaries_of t)

unfoldable pub on_diskb : Contents → Bool
on_diskb t = allb (λ e. not (used e.sys) || leb (end_of e) t.size) (primaries_of t)

-- rule S7: overlaps no other
abbrev pub Apart : MBRPartitionEntry → MBRPartitionEntry → Type 0
Apart e f = Used e → Used f → (end_of e ≤ f.starting_lba) ⊎ (end_of f ≤ e.starting_lba)

-- rule S7
abbrev pub apartb : MBRPartitionEntry → MBRPartitionEntry → Bool
apartb e f = not (used e.sys) || (not (used f.sys) || (leb (end_of e) f.starting_lba || leb (end_of f) e.starting_lba))

abbrev pub AllApart : Contents → Type 0
AllApart t = Pairs Apart (primaries_of t)

unfoldable pub all_apartb : Contents → Bool
all_apartb t = pairsb apartb (primaries_of t)

-- rule S8: at most one extended
abbrev pub Extended : MBRPartitionEntry → Type 0
Extended e = extended e.sys ≡ true

abbrev pub NotBoth : MBRPartitionEntry → MBRPartitionEntry → Type 0
NotBoth e f = Extended e → ¬ (Extended f)

abbrev pub not_bothb : MBRPartitionEntry → MBRPartitionEntry → Bool
not_bothb e f = not (extended e.sys) || not (extended f.sys)

abbrev pub OneExtended : Contents → Type 0
OneExtended t = Pairs NotBoth (primaries_of t)

unfoldable pub one_extendedb : Contents → Bool
one_extendedb t = pairsb not_bothb (primaries_of t)

-- rule S9: no logicals without it
abbrev pub Owned : Option MBRPartitionEntry → List LogicalPartition → Type 0
Owned None [] = Unit {0}
Owned None (l ∷ ls) = ⊥
Owned (Some e) ls = Unit {0}

unfoldable pub ownedb : Option MBRPartitionEntry → List LogicalPartition → Bool
ownedb None [] = true
ownedb None (l ∷ ls) = false
ownedb (Some e) ls = true

-- rules S10 to S13: each logical is used, not extended, has at least 1 sector, starts after its EBR; a first EBR without a partition need not be used, sized or behind itself
abbrev pub LogicalsUsed : Contents → Type 0
LogicalsUsed t = All (λ l. Used l.partition) (zones t.logicals)

unfoldable pub logicals_usedb : Contents → Bool
logicals_usedb t = allb (λ l. used l.partition.sys) (zones t.logicals)

abbrev pub LogicalsPlain : Contents → Type 0
LogicalsPlain t = All (λ l. ¬ (Extended l.partition)) t.logicals

unfoldable pub logicals_plainb : Contents → Bool
logicals_plainb t = allb (λ l. not (extended l.partition.sys)) t.logicals

abbrev pub LogicalsSized : Contents → Type 0
LogicalsSized t = All (λ l. 1 ≤ l.partition.sectors) (zones t.logicals)

unfoldable pub logicals_sizedb : Contents → Bool
logicals_sizedb t = allb (λ l. leb 1 l.partition.sectors) (zones t.logicals)

abbrev pub AfterEbr : Contents → Type 0
AfterEbr t = All (λ l. at l < start l) (zones t.logicals)

unfoldable pub after_ebrb : Contents → Bool
after_ebrb t = allb (λ l. ltb (at l) (start l)) (zones t.logicals)

-- rule S14: ends by the next EBR or the extended end
abbrev pub bound : ℕ → Option LogicalPartition → ℕ
bound hi None = hi
bound hi (Some m) = at m

abbrev pub EndsBy : ℕ → LogicalPartition → Option LogicalPartition → Type 0
EndsBy hi l n = end l ≤ bound hi n

abbrev pub Ends : Contents → Type 0
Ends t = Row (EndsBy (area_end (extended_entry t))) t.logicals None

unfoldable pub endsb : Contents → Bool
endsb t = rowb (λ l n. leb (end l) (bound (area_end (extended_entry t)) n)) t.logicals None

-- rule S15: the first EBR is at X
abbrev pub FirstAt : ℕ → List LogicalPartition → Type 0
FirstAt X [] = Unit {0}
FirstAt X (l ∷ ls) = at l ≡ X

unfoldable pub first_atb : ℕ → List LogicalPartition → Bool
first_atb X [] = true
first_atb X (l ∷ ls) = eqb (at l) X

-- rule S16: EBRs ascend
abbrev pub Ascend : Contents → Type 0
Ascend t = Row Before t.logicals None

abbrev pub beforeb : LogicalPartition → Option LogicalPartition → Bool
beforeb l None = true
beforeb l (Some m) = ltb (at l) (at m)

unfoldable pub ascendb : Contents → Bool
ascendb t = rowb beforeb t.logicals None

-- rules S17 to S19: each later link has at least 1 sector, ends by the extended end, covers its partition
abbrev pub OfLink : (ℕ → Type 0) → Type 0 → Option ℕ → Type 0
OfLink P other None = other
OfLink P other (Some n) = P n

abbrev pub of_linkb : (ℕ → Bool) → Bool → Option ℕ → Bool
of_linkb p other None = other
of_linkb p other (Some n) = p n

abbrev pub LinksSized : Contents → Type 0
LinksSized t = All (λ l. OfLink (λ n. 1 ≤ n) ⊥ l.ebr_sectors) (later t.logicals)

-- rule S17
unfoldable pub links_sizedb : Contents → Bool
links_sizedb t = allb (λ l. of_linkb (λ n. leb 1 n) false l.ebr_sectors) (later t.logicals)

abbrev pub LinksEnd : Contents → Type 0
LinksEnd t = All (λ l. OfLink (λ n. at l + n ≤ area_end (extended_entry t)) (Unit {0}) l.ebr_sectors) (later t.logicals)

unfoldable pub links_endb : Contents → Bool
links_endb t = allb (λ l. of_linkb (λ n. leb (at l + n) (area_end (extended_entry t))) true l.ebr_sectors) (later t.logicals)

abbrev pub LinksCover : Contents → Type 0
LinksCover t = All (λ l. OfLink (λ n. end l ≤ at l + n) (Unit {0}) l.ebr_sectors) (later t.logicals)

unfoldable pub links_coverb : Contents → Bool
links_coverb t = allb (λ l. of_linkb (λ n. leb (end l) (at l + n)) true l.ebr_sectors) (later t.logicals)

-- a sound table keeps every rule
pub record Sound (t : Contents) : Type 0 where
  pub signed : Signed t
  pub flags : Flags t
  pub addresses : Addresses t
  pub starts : Starts t
  pub sizes : Sizes t
  pub on-disk : OnDisk t
  pub apart : AllApart t
  pub one : OneExtended t
  pub owned : Owned (extended_entry t) t.logicals
  pub used : LogicalsUsed t
  pub plain : LogicalsPlain t
  pub sized : LogicalsSized t
  pub behind : AfterEbr t
  pub ends : Ends t
  pub first : FirstAt (area_start (extended_entry t)) t.logicals
  pub ascend : Ascend t
  pub link-sized : LinksSized t
  pub link-ends : LinksEnd t
  pub link-covers : LinksCover t

-- the rules in their order, each with its number above
unfoldable pub sound_rules : Contents → List Check
sound_rules t =
    (1 ! signedb t)
    ∷ (2 ! flagsb t)
    ∷ (3 ! addressesb t)
    ∷ (4 ! startsb t)
    ∷ (5 ! sizesb t)
    ∷ (6 ! on_diskb t)
    ∷ (7 ! all_apartb t)
    ∷ (8 ! one_extendedb t)
    ∷ (9 ! ownedb (extended_entry t) t.logicals)
    ∷ (10 ! logicals_usedb t)
    ∷ (11 ! logicals_plainb t)
    ∷ (12 ! logicals_sizedb t)
    ∷ (13 ! after_ebrb t)
    ∷ (14 ! endsb t)
    ∷ (15 ! first_atb (area_start (extended_entry t)) t.logicals)
    ∷ (16 ! ascendb t)
    ∷ (17 ! links_sizedb t)
    ∷ (18 ! links_endb t)
    ∷ (19 ! links_coverb t)
    ∷ []

-- the test: no rule is broken (rule S29)
unfoldable pub soundb : Contents → Bool
soundb t = checked (sound_rules t) (λ k. false) true

-- rule G5: the test on a table handed in, a count over the capacity is 6
unfoldable pub sound_says : MBR → Said Bool
sound_says t = answer (count_check t ∷ []) (soundb (contents_of t))
