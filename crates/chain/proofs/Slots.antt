-- Logical partitions made of the records that were found: they are those of the chain. Assumes nothing.
use mathlib.Core.Path.{◌≡◌, refl, sym, ap, subst, ◌∙◌}
use mathlib.Core.List.{List, [], ◌∷◌, ◌++◌, map}
use Rattle.std.specs.Prelude.{Option, None, Some}
use Prim.Native.Nat.{ℕ, zero, suc, ◌+◌, ◌-◌, ◌≤◌, ◌<◌}
use native.Mathlib.Omega.{arith}
use native.Mathlib.Numerals.{add-one, sub-one}
use lib.ListN.{length, get_or, set, take, replicate, length-map}
use lib.Seq.{take-suc, set-append_seam, append_snoc, length-take-le, take-length}
use borrow.Author.Tests.{ne_eqb}
use Rattle.base.specs.Said.{Said, gives, refuses}
use Rattle.base.specs.Row.{next, Row}
use Rattle.record_entry.specs.declared.MBRPartitionEntry.{MBRPartitionEntry}
use Rattle.record_ebr.specs.declared.EBRHeader.{EBRHeader}
use Rattle.record_ebr.specs.Ebr.{ebr_of}
use Rattle.extract.specs.Extract.{Good, lba_at, record_at, disk_of, blank}
use Rattle.extract.proofs.Disk.{sector-of}
use Rattle.extract.proofs.Halves.{found-is}
use Rattle.table.specs.declared.LogicalPartition.{LogicalPartition}
use Rattle.table.specs.Table.{most, no_logical, empty_slot, slots, parts}
use Rattle.chain.specs.Chain.{view, Link, first_link, placed, logicals_of}
use Rattle.chain.specs.Facts.{View, next_of, body_in, body_of, leads, link_in, Held, Plain, Holds, at, seen}
use Rattle.chain.specs.Walk.{places_of, counted, Fit, AllFit, Noted, NotedAll, first_link_of, part_in, lifted, link_at, rebuilt, link_to}
use Rattle.chain.proofs.View.{seen→view, view→facts, next→to}
use Rattle.chain.proofs.Rows.{placed_from, placed_by, placed-body, logicals→holds}

-- number j of the partitions that are made
pub rebuilt-long : (x : List ℕ) (k : Link) (is : List ℕ) → length (rebuilt x k is) ≡ length is
unfolding rebuilt
rebuilt-long x k [] = refl
rebuilt-long x k (i ∷ is) = ap suc (rebuilt-long x (link_at x i) is)

link-later : (x : List ℕ) (k m : Link) (i : ℕ) (is : List ℕ) (j : ℕ) → link_to x k (i ∷ is) (suc (suc j)) ≡ link_to x m is (suc j)
link-later x k m i is j = rw (ne_eqb (suc (suc j)) 0 (λ z. absurd (omega arith)), ne_eqb (suc j) 0 (λ z. absurd (omega arith)), sub-one, sub-one)

pub rebuilt-at : (x : List ℕ) (k : Link) (is : List ℕ) (j : ℕ) → j < length is → lifted x (link_to x k is j) (get_or is j 0) ≡ get_or (rebuilt x k is) j no_logical
unfolding rebuilt
rebuilt-at x k [] j h = absurd (omega arith)
rebuilt-at x k (i ∷ is) zero h = refl
rebuilt-at x k (i ∷ is) (suc zero) h = rebuilt-at x (link_at x i) is zero (omega arith)
rebuilt-at x k (i ∷ is) (suc (suc j)) h =
    ap (λ (y : Link). lifted x y (get_or is (suc j) 0)) (link-later x k (link_at x i) i is j) ∙ rebuilt-at x (link_at x i) is (suc j) (omega arith)

-- the link to the next
pub link-on : (x : List ℕ) (k : Link) (is : List ℕ) (j : ℕ) → link_at x (get_or is j 0) ≡ link_to x k is (j + 1)
link-on x k is j =
    let s : j + 1 - 1 ≡ j = omega arith in
    rw (ne_eqb (j + 1) 0 (λ z. absurd (omega arith)), s)

-- their entries
pub rebuilt-parts : (x : List ℕ) (k : Link) (is : List ℕ) → parts (rebuilt x k is) ≡ map (part_in x) is
unfolding rebuilt placed
rebuilt-parts x k [] = refl
rebuilt-parts x k (i ∷ is) = ap (λ (es : List MBRPartitionEntry). part_in x i ∷ es) (rebuilt-parts x (link_at x i) is)

-- the first i in their slots
abbrev pub sofar : List LogicalPartition → ℕ → List LogicalPartition
sofar ls i = take i ls ++ replicate (most - i) empty_slot

pub sofar-none : (ls : List LogicalPartition) → replicate most empty_slot ≡ sofar ls 0
sofar-none ls = refl

set_at : {A : Type 0} (xs : List A) (y : A) (ys : List A) (i : ℕ) (a : A) → length xs ≡ i → set (xs ++ y ∷ ys) i a ≡ xs ++ a ∷ ys
set_at xs y ys i a e = subst (λ (k : ℕ). set (xs ++ y ∷ ys) k a ≡ xs ++ a ∷ ys) e (set-append_seam xs y ys a)

pub sofar-more : (ls : List LogicalPartition) (i : ℕ) → i < length ls → length ls ≤ most → set (sofar ls i) i (get_or ls i no_logical) ≡ sofar ls (i + 1)
sofar-more ls i h l =
    let r : most - i ≡ suc (most - (i + 1)) = omega arith in
    let R = replicate (most - (i + 1)) empty_slot in
    let v = get_or ls i no_logical in
    let n : length (take i ls) ≡ i = length-take-le i ls (omega arith) in
    let t : take (i + 1) ls ≡ take i ls ++ (v ∷ []) = ap (λ (k : ℕ). take k ls) (add-one i) ∙ take-suc ls i no_logical h in
    ap (λ (k : ℕ). set (take i ls ++ replicate k empty_slot) i v) r
    ∙ set_at (take i ls) empty_slot R i v n
    ∙ sym (ap (λ (z : List LogicalPartition). z ++ R) t ∙ append_snoc (take i ls) v R)

pub sofar-slots : (ls : List LogicalPartition) → sofar ls (length ls) ≡ slots ls
unfolding slots
sofar-slots ls = ap (λ (z : List LogicalPartition). z ++ replicate (most - length ls) empty_slot) (take-length ls)

-- the records that were noted
pub noted-fits : (x is ps : List ℕ) → Noted x is ps → AllFit x (take (length ps) is)
noted-fits x is [] n j h = absurd (omega arith)
noted-fits x [] (a ∷ ps) n j h = absurd n
noted-fits x (i ∷ is) (a ∷ ps) n zero h = n.0
noted-fits x (i ∷ is) (a ∷ ps) n (suc j) h = noted-fits x is ps n.2 j (omega arith)

-- the partitions of the first m records
rebuilt-taken : (x : List ℕ) (k : Link) (is : List ℕ) (m : ℕ) → rebuilt x k (take m is) ≡ take m (rebuilt x k is)
unfolding rebuilt
rebuilt-taken x k is zero = refl
rebuilt-taken x k [] (suc m) = refl
rebuilt-taken x k (i ∷ is) (suc m) = ap (◌∷◌ (lifted x k i)) (rebuilt-taken x (link_at x i) is m)

-- a logical partition that the disk holds is made of its record
module _ (x : List ℕ) (g : Good x) (X : ℕ) where
  -- the EBR of a noted record
  header-noted : (l : LogicalPartition) (n : Option LogicalPartition) (i : ℕ) → Held (seen (disk_of x)) X l n → Fit x i → lba_at x i ≡ at l
      → (body_in (ebr_of (record_at x i)) ≡ body_of l) × (next_of (ebr_of (record_at x i)).partition_2 ≡ leads X n)
  header-noted l n i h f e =
      let s = seen→view (view (disk_of x) (at l)) (body_of l) (leads X n) h in
      let v = view→facts (disk_of x) (at l) s.header s.is in
      let r : (disk_of x).sector (at l) ≡ record_at x i = sector-of x (at l) ∙ found-is x blank g (at l) i f.inside e in
      let q : ebr_of (record_at x i) ≡ s.header = ap ebr_of (sym r) ∙ v.1 in
      (ap body_in q ∙ s.body, ap (λ (y : EBRHeader). next_of y.partition_2) q ∙ s.leads)

  lifted-held : (l : LogicalPartition) (n : Option LogicalPartition) (i : ℕ) → Held (seen (disk_of x)) X l n → Plain X l n → Fit x i → lba_at x i ≡ at l → lifted x (link_in l) i ≡ l
  lifted-held l n i h p f e =
      placed_by (lba_at x i) (link_in l) (ebr_of (record_at x i))
      ∙ ap (placed_from (lba_at x i) (link_in l)) (header-noted l n i h f e).0
      ∙ ap (λ (a : ℕ). placed_from a (link_in l) (body_of l)) e
      ∙ placed-body l p.after

  -- k leads to the first of them
  abbrev Led : Link → List LogicalPartition → Type 0
  Led k [] = Unit {0}
  Led k (l ∷ ls) = link_in l ≡ k

  led-next : (l : LogicalPartition) (ls : List LogicalPartition) (i : ℕ) → Held (seen (disk_of x)) X l (next ls None) → Fit x i → lba_at x i ≡ at l → Led (link_at x i) ls
  led-next l [] i h f e = tt
  led-next l (m ∷ ms) i h f e = sym (next→to (ebr_of (record_at x i)).partition_2 (at m - X) (link_in m) (header-noted l (Some m) i h f e).1).1

  row-rebuilt : (k : Link) (ls : List LogicalPartition) (is : List ℕ) → Led k ls → Row (Held (seen (disk_of x)) X) ls None → Row (Plain X) ls None → Noted x is (map at ls)
      → take (length ls) (rebuilt x k is) ≡ ls
  unfolding rebuilt
  row-rebuilt k [] is b h p n = refl
  row-rebuilt k (l ∷ ls) [] b h p n = absurd n
  row-rebuilt k (l ∷ ls) (i ∷ is) b h p n =
      let e : lifted x k i ≡ l = ap (λ (y : Link). lifted x y i) (sym b) ∙ lifted-held l (next ls None) i h.0 p.0 n.0 n.1 in
      let t = row-rebuilt (link_at x i) ls is (led-next l ls i h.0 n.0 n.1) h.1 p.1 n.2 in
      λ j. e j ∷ t j

holds-rebuilt : (x : List ℕ) → Good x → (o : Option MBRPartitionEntry) (ls : List LogicalPartition) (is : List ℕ) → Holds (seen (disk_of x)) o ls → Noted x is (map at ls)
    → take (length ls) (rebuilt x (first_link_of o) is) ≡ ls
holds-rebuilt x g o [] is h n = refl
holds-rebuilt x g None (l ∷ ls) is h n = absurd h
holds-rebuilt x g (Some e) (l ∷ ls) is h n = row-rebuilt x g e.starting_lba (first_link e) (l ∷ ls) is h.begins.1 h.held h.plain n

pub holds-few : (w : ℕ → View) (o : Option MBRPartitionEntry) (ls : List LogicalPartition) → Holds w o ls → length ls ≤ most
holds-few w o [] h = omega arith
holds-few w None (l ∷ ls) h = absurd h
holds-few w (Some e) (l ∷ ls) h = h.few

-- what reading a chain leads to: a refusal, or the partitions of the first m records that were noted
module _ (x : List ℕ) (g : Good x) (o : Option MBRPartitionEntry) where
  abbrev said : Said (List LogicalPartition)
  said = logicals_of (view (disk_of x)) o

  pub chain-refused : (k : ℕ) → refuses k ≡ counted 0 (places_of said) → refuses k ≡ said
  chain-refused k q = go said q
    where
      go : (s : Said (List LogicalPartition)) → refuses k ≡ counted 0 (places_of s) → refuses k ≡ s
      go (refuses j) q = cc
      go (gives ls) q = let w : ◌≡◌ {A = ℕ} 0 1 = cc in absurd (omega arith)

  pub record Read (is : List ℕ) (m : ℕ) : Type 0 where
    pub few : m ≤ most
    pub fit : AllFit x (take m is)
    pub logicals : gives (rebuilt x (first_link_of o) (take m is)) ≡ said

  pub chain-read : (is : List ℕ) (m : ℕ) → gives m ≡ counted 0 (places_of said) → NotedAll x is (places_of said) → Read is m
  chain-read is m q n = go said refl q n
    where
      go : (s : Said (List LogicalPartition)) → said ≡ s → gives m ≡ counted 0 (places_of s) → NotedAll x is (places_of s) → Read is m
      go (refuses k) z q n = let w : ◌≡◌ {A = ℕ} 0 1 = cc in absurd (omega arith)
      go (gives ls) z q n =
          let h = logicals→holds (view (disk_of x)) o ls z in
          let u : m ≡ 0 + length (map at ls) = cc in
          let c : m ≡ length (map at ls) = omega arith in
          let e : m ≡ length ls = c ∙ length-map ls at in
          record {
            few = omega (arith, e, holds-few (seen (disk_of x)) o ls h);
            fit = rw c (noted-fits x is (map at ls) n);
            logicals = ap gives (rebuilt-taken x (first_link_of o) is m ∙ ap (λ (k : ℕ). take k (rebuilt x (first_link_of o) is)) e ∙ holds-rebuilt x g o ls is h n) ∙ sym z;
          }
