-- Demand 3: pull the drive at any moment of a careful change. The contracts of `careful_push` and `careful_remove` promise it. Assumes nothing.
use Rattle.std.specs.Prelude.{ℕ, ◌+◌, ◌*◌, ◌≤◌, ◌<◌, ◌≡◌, ◌⊎◌, List, length, take, drop}
use Rattle.std.specs.Prelude.{None}
use Rattle.base.specs.Bytes.{Record}
use Rattle.base.specs.Said.{Said, gives, refuses, and_then}
use Rattle.base.specs.Checks.{Check, first-fail, AllHold, FirstFail}
use Rattle.base.specs.All.{All}
use Rattle.record_entry.specs.declared.MBRPartitionEntry.{MBRPartitionEntry}
use Rattle.record_entry.specs.Entry.{end_of}
use Rattle.extract.specs.Disk.{Disk, after}
use Rattle.table.specs.declared.MBR.{MBR}
use Rattle.read_table.specs.Read.{Table, read, read_says, table_of}
use Rattle.table_push.specs.declared.request.Request.{Request}
use Rattle.table_push.specs.Push.{push_says, push_table}
use Rattle.table_remove.specs.Remove.{remove_checks, removed_table}
use Rattle.sound.specs.Sound.{Contents, contents_of, primaries_of, Used, Extended, Sound}
use Rattle.careful.specs.Careful.{contents, Change, order_of, push_refusals, remove_refusals, as_asked, in_first_place, with_last_at}
use Rattle.careful.specs.Output.{stores_in}
use Rattle.careful_stores.specs.Stored.{store_length}

-- each sector of the disk is a record
abbrev pub Whole : Disk → Type 0
Whole d = (a : ℕ) → a < d.size → Record (d.sector a)

-- what a disk reads as, alignment left out
unfoldable pub contents_on : Disk → Said Contents
contents_on d = and_then (read d) (λ t. gives (contents t))

-- a sector of the entry
pub record In (a : ℕ) (e : MBRPartitionEntry) : Type 0 where
  pub low : e.starting_lba ≤ a
  pub high : a < end_of e

-- a sector of no data partition of the table: neither of a used primary that is not extended, nor of a logical
pub record ClearOf (a : ℕ) (t : Contents) : Type 0 where
  pub primaries : All (λ e. Used e → ¬ (Extended e) → ¬ (In a e)) (primaries_of t)
  pub logicals : All (λ l. ¬ (In a l.partition)) t.logicals

-- a change from the table t, safe at every stop (rules K29 and V17)
pub record Safe (d : Disk) (t : Contents) (c : Change) : Type 0 where
  -- one or two stores, each of a record, on a sector of the disk
  pub number : (length c.stores ≡ 1) ⊎ (length c.stores ≡ 2)
  pub records : All (λ s. Record s.bytes) c.stores
  pub inside : All (λ s. s.lba < d.size) c.stores
  -- stopped after any number of them, the disk reads as the table before or the table after
  pub stops : (k : ℕ) → (contents_on (after d (take k c.stores)) ≡ gives t) ⊎ (contents_on (after d (take k c.stores)) ≡ gives c.result)
  -- and as the table after once all are stored
  pub done : contents_on (after d c.stores) ≡ gives c.result
  -- no store falls on a sector of a data partition of either table
  pub clear : All (λ s. ClearOf s.lba t × ClearOf s.lba c.result) c.stores
  -- the table after is sound
  pub sound : Sound c.result

-- refused with the number k, and no lent byte is changed
abbrev pub Refused : List ℕ → Said ℕ → List ℕ → ℕ → Type 0
Refused out said left k = (said ≡ refuses k) × (left ≡ out)

-- accepted, on an extract that reads as the table t; the crate's own table is put in order by `settled`
pub record Accepted (t : Contents) (crate : MBR → Type 0) (settled : MBR → Contents) (out : List ℕ) (said : Said ℕ) (left : List ℕ) : Type 0 where
  -- the crate's own change is accepted too, and gives this table
  pub own : MBR
  pub same : crate own
  -- so many stores stand in the lent output; the bytes behind them are as before
  pub number : ℕ
  pub counted : said ≡ gives number
  pub rest : drop (number * store_length) left ≡ drop (number * store_length) out
  -- put on any disk that reads as t they are safe, and end in the crate's own table, so settled
  pub safe : (d : Disk) → Whole d → contents_on d ≡ gives t → Safe d t (record { stores = stores_in left number; result = settled own })

-- Demand 3 of one call: the lent extract and output, what the call said, and the output that it left
pub record Demand3 (refusals : Contents → List Check) (crate : Table → MBR → Type 0) (settled : Table → MBR → Contents) (x out : List ℕ) (said : Said ℕ) (left : List ℕ) : Type 0 where
  -- reading's refusals come first
  pub unread : (k : ℕ) → read_says x ≡ refuses k → Refused out said left k
  -- then those listed; sound, 20, is the first of them
  pub refused : (t : Table) → read_says x ≡ gives t → (k : ℕ) → FirstFail (refusals (contents t)) k → Refused out said left k
  -- there is no other ground to refuse
  pub accepted : (t : Table) → read_says x ≡ gives t → AllHold (refusals (contents t)) → Accepted (contents t) (crate t) (settled t) out said left

-- the crate's own push of what is asked for, on the table t with that alignment and geometry: the new partition's number, and the table u
pub record Pushes (q : Request) (t : Table) (u : MBR) : Type 0 where
  pub number : push_says (as_asked (table_of t) q) q.sys q.start q.sectors ≡ gives (length t.logicals + 5)
  pub table : push_table (as_asked (table_of t) q) q.sys q.start q.sectors ≡ u

-- the crate's own removal of partition n from the table t: no refusal, and the table u
pub record Removes (n : ℕ) (t : Table) (u : MBR) : Type 0 where
  pub unrefused : first-fail (remove_checks (table_of t) n) ≡ None
  pub table : removed_table (table_of t) n ≡ u

-- after a push the new partition, the crate's last, stands at its place in the order of t; then the first-place rule
abbrev pub after_push : Request → Table → MBR → Contents
after_push q t u = in_first_place (with_last_at (order_of q (contents t)) (contents_of u))

-- after a removal the first-place rule alone
abbrev pub after_removal : Table → MBR → Contents
after_removal t u = in_first_place (contents_of u)

-- Demand 3 of a careful push, and of a careful removal
abbrev pub PushDemand3 : Request → List ℕ → List ℕ → Said ℕ → List ℕ → Type 0
PushDemand3 q x out said left = Demand3 (push_refusals (length out) q) (Pushes q) (after_push q) x out said left

abbrev pub RemoveDemand3 : ℕ → List ℕ → List ℕ → Said ℕ → List ℕ → Type 0
RemoveDemand3 n x out said left = Demand3 (remove_refusals (length out) n) (Removes n) after_removal x out said left
