-- Demand 3 holds of every call that says and leaves what a careful change says. Assumes nothing.
use mathlib.Core.Path.{◌≡◌, refl, sym, ap, subst, ◌∙◌}
use Rattle.std.specs.Prelude.{None, Some}
use mathlib.Core.Bool.{false}
use mathlib.Core.List.{List, [], ◌∷◌, ◌++◌}
use Prim.Native.Nat.{ℕ, ◌+◌, ◌*◌, ◌^◌, ◌<◌}
use native.Mathlib.Omega.{arith}
use lib.ListN.{length, drop, length-append}
use lib.Seq.{drop_at}
use Rattle.base.specs.Bytes.{Bytes, Record, bytes_of, little}
use Rattle.base.specs.Put.{put}
use Rattle.base.specs.Said.{Said, gives, refuses, and_then}
use Rattle.base.specs.Checks.{Check, first-fail, AllHold, FirstFail}
use Rattle.base.proofs.Bytes.{length-bytes_of}
use Rattle.base.proofs.Checks.{all_hold, checked-some, checked-none, none-fails, answer-gives}
use Rattle.base.specs.All.{All}
use Rattle.extract.specs.Disk.{Disk, Store}
use Rattle.extract.specs.declared.Extract.{Extract}
use Rattle.extract.specs.Extract.{Good, extract_checks, disk_of}
use Rattle.extract.specs.Answers.{header_of, check_says}
use Rattle.extract.proofs.Disk.{size_below, sector-record}
use Rattle.table.specs.declared.MBR.{MBR}
use Rattle.read_table.specs.Read.{Table, read, read_says, table_of}
use Rattle.read_table.specs.Facts.{looked}
use Rattle.read_table.specs.Wanted.{first_absent, From}
use Rattle.read_table.specs.Collect.{Collected}
use Rattle.read_table.proofs.Collect.{collected-reads}
use Rattle.table_push.specs.declared.request.Request.{Request}
use Rattle.table_push.specs.Push.{push_table}
use Rattle.table_remove.specs.Remove.{removed_table}
use Rattle.sound.specs.Sound.{Contents}
use Rattle.careful.specs.Careful.{contents, Change, push_refusals, push_change, remove_refusals, remove_change, as_asked, changing, careful_push_says, careful_remove_says}
use Rattle.careful.specs.Output.{store_bytes, stores_bytes, stores_in, out_after, count_of, stores_counted}
use Rattle.careful.specs.Demand3.{Whole, contents_on, Safe, Refused, Accepted, Demand3, Pushes, Removes, after_push, after_removal, PushDemand3, RemoveDemand3}
use Rattle.careful_stores.specs.Stored.{store_length}
use Rattle.careful.proofs.Shown.{Shows, read→shows, read→contents}
use Rattle.careful.proofs.New.{Asked}
use Rattle.careful.proofs.Accepted.{push-accepted, remove-accepted}
use Rattle.careful.proofs.Crate.{push-own, push-same, remove-own, remove-same}
use Rattle.careful.proofs.Output.{stores_back}

-- the first check that fails is answered
skip-holding : (before behind : List Check) (c : Check) → AllHold before → c.holds ≡ false → first-fail (before ++ c ∷ behind) ≡ Some c.number
skip-holding [] behind c h f = rw f
skip-holding (b ∷ bs) behind c h f = rw h.0 (skip-holding bs behind c h.1 f)

first-fails : (cs : List Check) (k : ℕ) → FirstFail cs k → first-fail cs ≡ Some k
first-fails cs k f = ap first-fail f.parts ∙ skip-holding f.before f.behind f.check f.holding f.fails ∙ ap Some f.number

-- the disk of a good extract is whole
pub whole_of : (x : List ℕ) → Good x → Whole (disk_of x)
whole_of x g = λ a h. sector-record x g a

-- an extract that reads is good, and its disk reads so
read-good : (x : List ℕ) → Bytes x → (t : Table) → (s : Said Extract) → check_says x ≡ s → and_then s (λ e. read (disk_of x)) ≡ gives t → Good x × (read (disk_of x) ≡ gives t)
unfolding check_says
read-good x b t (gives e) c h = (record { rules = none-fails (extract_checks x) (answer-gives (extract_checks x) (header_of x) e c).0; bytes = b }, h)
read-good x b t (refuses k) c h = let w : ◌≡◌ {A = ℕ} 0 1 = cc in absurd (omega arith)

pub good-read : (x : List ℕ) → Bytes x → (t : Table) → read_says x ≡ gives t → Good x × (read (disk_of x) ≡ gives t)
unfolding read_says
good-read x b t h = read-good x b t (check_says x) refl h

-- the disk from which an extract was collected reads as the extract does
pub collected-contents : (d : Disk) (x z : List ℕ) (n : ℕ) → Good x → From d x → Collected d x n z → first_absent z (looked (disk_of z)) ≡ None → Bytes z
    → (t : Table) → read_says z ≡ gives t → contents_on d ≡ gives (contents t)
collected-contents d x z n g f c h b t r = read→contents d t (sym (collected-reads d x z n g f c h) ∙ (good-read z b t r).1)

stores-long : (ss : List Store) → All (λ s. Record s.bytes) ss → length (stores_bytes ss) ≡ length ss * store_length
unfolding stores_bytes store_bytes
stores-long [] r = refl
stores-long (s ∷ ss) r =
    let a : length (bytes_of little 4 s.lba ++ s.bytes) ≡ store_length = length-append (bytes_of little 4 s.lba) s.bytes ∙ rw (length-bytes_of little 4 s.lba, r.0.long) in
    let b : length (stores_bytes ss) ≡ length ss * store_length = stores-long ss r.1 in
    length-append (bytes_of little 4 s.lba ++ s.bytes) (stores_bytes ss) ∙ omega (arith, a, b)

-- behind the stores the lent output is as before
rest-kept : (out : List ℕ) (c : Change) → All (λ s. Record s.bytes) c.stores → drop (count_of c * store_length) (out_after out (gives c)) ≡ drop (count_of c * store_length) out
unfolding out_after put
rest-kept out c r =
    let n : length (stores_bytes c.stores) ≡ count_of c * store_length = stores-long c.stores r in
    let z : 0 + length (stores_bytes c.stores) ≡ length (stores_bytes c.stores) = omega arith in
    drop_at (stores_bytes c.stores) (drop (0 + length (stores_bytes c.stores)) out) (count_of c * store_length) n ∙ ap (λ (k : ℕ). drop k out) (z ∙ n)

-- a call on lent bytes that says and leaves what the change says
module _ (x : List ℕ) (b : Bytes x) (refusals : Contents → List Check) (change : Contents → Change) (crate : Table → MBR → Type 0) (settled : Table → MBR → Contents) (own : Table → MBR)
    (accepts : (d : Disk) (t : Table) → Shows d (contents t) → AllHold (refusals (contents t)) → crate t (own t))
    (same : (d : Disk) (t : Table) → Shows d (contents t) → AllHold (refusals (contents t)) → (change (contents t)).result ≡ settled t (own t))
    (safe : (d : Disk) (t : Contents) → Whole d → t.size < 2 ^ 32 → contents_on d ≡ gives t → AllHold (refusals t) → Safe d t (change t))
    (out : List ℕ) (said : Said ℕ) (left : List ℕ)
    (says : said ≡ stores_counted (changing refusals change (read_says x))) (leaves : left ≡ out_after out (changing refusals change (read_says x))) where
  told : (s : Said Change) → changing refusals change (read_says x) ≡ s → (said ≡ stores_counted s) × (left ≡ out_after out s)
  told s e = (says ∙ ap stores_counted e, leaves ∙ ap (out_after out) e)

  refused-with : (k : ℕ) → changing refusals change (read_says x) ≡ refuses k → Refused out said left k
  unfolding out_after
  refused-with k e = told (refuses k) e

  accepted-as : (t : Table) → read_says x ≡ gives t → AllHold (refusals (contents t)) → Accepted (contents t) (crate t) (settled t) out said left
  accepted-as t r h =
      let c : Change = change (contents t) in
      let g = good-read x b t r in
      let shows : Shows (disk_of x) (contents t) = read→shows (disk_of x) t g.1 in
      let e : changing refusals change (read_says x) ≡ gives c =
      ap (changing refusals change) r ∙ checked-none (refusals (contents t)) refuses (gives c) (all_hold (refusals (contents t)) h) in
      let below : (disk_of x).size < 2 ^ 32 = size_below x g.0 in
      let small : t.size < 2 ^ 32 = omega (arith, below, shows.size) in
      let here : Safe (disk_of x) (contents t) c = safe (disk_of x) (contents t) (whole_of x g.0) small (read→contents (disk_of x) t g.1) h in
      let l : left ≡ out_after out (gives c) = (told (gives c) e).1 in
      let back : stores_in left (count_of c) ≡ c.stores = ap (λ (bs : List ℕ). stores_in bs (count_of c)) l ∙ stores_back (disk_of x) (contents t) c out below here in
      let result : c.result ≡ settled t (own t) = same (disk_of x) t shows h in
      record {
        own = own t;
        same = accepts (disk_of x) t shows h;
        number = count_of c;
        counted = (told (gives c) e).0;
        rest = ap (drop (count_of c * store_length)) l ∙ rest-kept out c here.records;
        safe = λ d w reads.
            subst (λ (k : Change). Safe d (contents t) k) (λ i. record { stores = sym back i; result = result i }) (safe d (contents t) w small reads h);
      }

  demand3 : Demand3 refusals crate settled x out said left
  demand3 = record {
    unread = λ k r. refused-with k (ap (changing refusals change) r);
    refused = λ t r k f.
        refused-with k
        (ap (changing refusals change) r ∙ checked-some (refusals (contents t)) refuses (gives (change (contents t))) k (first-fails (refusals (contents t)) k f));
    accepted = accepted-as;
  }

-- the two changes
module _ (x : List ℕ) (b : Bytes x) (out : List ℕ) (said : Said ℕ) (left : List ℕ) where
  pub push-demand3 : (q : Request) → Asked q → said ≡ stores_counted (careful_push_says x (length out) q) → left ≡ out_after out (careful_push_says x (length out) q)
      → PushDemand3 q x out said left
  unfolding careful_push_says
  push-demand3 q asked says leaves =
      demand3 x b (push_refusals (length out) q) (push_change q) (Pushes q) (after_push q) (λ t. push_table (as_asked (table_of t) q) q.sys q.start q.sectors)
      (λ d t s h. push-own d t s (length out) q h)
      (λ d t s h. push-same d t s (length out) q h)
      (λ d t w small r h. push-accepted d t w small r (length out) q asked h)
      out said left says leaves

  pub remove-demand3 : (n : ℕ) → said ≡ stores_counted (careful_remove_says x (length out) n) → left ≡ out_after out (careful_remove_says x (length out) n)
      → RemoveDemand3 n x out said left
  unfolding careful_remove_says
  remove-demand3 n says leaves =
      demand3 x b (remove_refusals (length out) n) (remove_change n) (Removes n) after_removal (λ t. removed_table (table_of t) n)
      (λ d t s h. remove-own d t s (length out) n h)
      (λ d t s h. remove-same d t s (length out) n h)
      (λ d t w small r h. remove-accepted d t w small r (length out) n h)
      out said left says leaves
