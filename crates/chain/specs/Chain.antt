-- A chain is one EBR and what follows it; what follows is an end, or a link and a chain. Assumes nothing.
use Rattle.std.specs.Prelude.{ℕ, zero, suc, ◌+◌, ◌^◌, List, [], ◌∷◌, eqb, ltb}
use Rattle.std.specs.Prelude.{Option, None, Some}
use Rattle.base.specs.Pick.{pick}
use Rattle.base.specs.Said.{Said, gives, refuses, and_then}
use Rattle.base.specs.Checks.{◌!◌, checked, answer}
use Rattle.record_chs.specs.declared.CHS.{CHS}
use Rattle.record_entry.specs.declared.MBRPartitionEntry.{MBRPartitionEntry}
use Rattle.record_ebr.specs.declared.EBRHeader.{EBRHeader}
use Rattle.record_ebr.specs.Ebr.{ebr_checks, ebr_of}
use Rattle.extract.specs.Disk.{Disk}
use Rattle.table.specs.declared.LogicalPartition.{LogicalPartition}
use Rattle.table.specs.Table.{most}

-- the EBR at a sector: past the disk 2, signature 3, flags 4 (rule R9)
unfoldable pub view : Disk → ℕ → Said EBRHeader
view d a = answer ((2 ! ltb a d.size) ∷ ebr_checks (d.sector a)) (ebr_of (d.sector a))

-- what is known of the way to an EBR: its link's sectors, first and last CHS
pub record Link : Type 0 where
  pub sectors : Option ℕ
  pub first : CHS
  pub last : Option CHS

-- to the first EBR: no sectors, no last CHS, the extended entry's first CHS (rule R18)
abbrev pub first_link : MBRPartitionEntry → Link
first_link e = record { sectors = None; first = e.first_chs; last = None }

-- to a later EBR: from the link entry (rule R18)
abbrev pub link_of : MBRPartitionEntry → Link
link_of e = record { sectors = Some e.sectors; first = e.first_chs; last = Some e.last_chs }

-- the entry with another start
abbrev pub starting_at : ℕ → MBRPartitionEntry → MBRPartitionEntry
starting_at s e =
    record {
      boot = e.boot;
      first_chs = e.first_chs;
      sys = e.sys;
      last_chs = e.last_chs;
      starting_lba = s;
      sectors = e.sectors;
    }

-- the logical partition of the EBR h at sector a, to which k leads (rule R21)
unfoldable pub placed : ℕ → Link → EBRHeader → LogicalPartition
placed a k h =
    record {
      partition = starting_at (h.partition_1.starting_lba + a) h.partition_1;
      absolute_ebr_lba = record { 0 = a };
      ebr_sectors = k.sectors;
      ebr_first_chs = k.first;
      ebr_last_chs = k.last;
      kept = h.kept;
    }

-- one more in front
abbrev pub join : LogicalPartition → Said (List LogicalPartition) → Said (List LogicalPartition)
join l s = and_then s (λ ls. gives (l ∷ ls))

-- where a link that starts at t leads: 0 is an end, whatever the link's type
abbrev pub leads_to : ℕ → Option ℕ
leads_to t = pick (eqb t 0) None (Some t)

-- by where a link leads: to an end, or on to a place
abbrev pub by_link : {A : Type 0} → A → (ℕ → A) → Option ℕ → A
by_link end on None = end
by_link end on (Some r) = on r

-- The decision what follows an EBR at sector a, whose place counted from the extended partition's start is rel, whose partition starts at p and whose link at t;
-- m is the number of EBRs still allowed. The 25th EBR 6; partition start + sector beyond 32 bits 7; an end; a link not above the current place 5; else the link's place (rules R12 to R15 and R34)
unfoldable pub follows : ℕ → ℕ → ℕ → ℕ → ℕ → Said (Option ℕ)
follows m a rel p t =
    checked ((6 ! ltb 0 m) ∷ (7 ! ltb (p + a) (2 ^ 32)) ∷ []) refuses
    (by_link (gives None) (λ r. answer ((5 ! ltb rel r) ∷ []) (Some r)) (leads_to t))

-- what follows the EBR h at X + rel
abbrev pub follows_in : ℕ → ℕ → ℕ → EBRHeader → Said (Option ℕ)
follows_in m X rel h = follows m (X + rel) rel h.partition_1.starting_lba h.partition_2.starting_lba

-- the EBR h at X + rel, to which k leads, and what follows it; m is the number of EBRs still allowed, and with none allowed the decision refuses (rules R7, R9, R23 and R33)
unfoldable pub chain : (ℕ → Said EBRHeader) → ℕ → ℕ → ℕ → Link → EBRHeader → Said (List LogicalPartition)
chain v X zero rel k h = and_then (follows_in zero X rel h) (λ o. gives [])
chain v X (suc m) rel k h =
    and_then (follows_in (suc m) X rel h)
    (λ o. join (placed (X + rel) k h) (by_link (gives []) (λ r. and_then (v (X + r)) (chain v X m r (link_of h.partition_2))) o))

-- if the first EBR fails there are no logical partitions and no refusal (rule R16)
abbrev pub forgiven : Said EBRHeader → (EBRHeader → Said (List LogicalPartition)) → Said (List LogicalPartition)
forgiven (gives h) f = f h
forgiven (refuses k) f = gives []

-- the logical partitions of an extended entry, from its start X on (rules R6, R7 and R23)
unfoldable pub logicals_of : (ℕ → Said EBRHeader) → Option MBRPartitionEntry → Said (List LogicalPartition)
logicals_of v None = gives []
logicals_of v (Some e) = forgiven (v e.starting_lba) (chain v e.starting_lba most 0 (first_link e))
