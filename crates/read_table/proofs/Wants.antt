-- What an extract wants: the steps of the search, and what it means to want nothing. Assumes nothing.
use mathlib.Core.Path.{◌≡◌, refl, sym, ap, ◌∙◌}
use mathlib.Core.List.{List, [], ◌∷◌}
use mathlib.Core.Bool.{Bool, true, false}
use Rattle.std.specs.Prelude.{Option, None, Some}
use Prim.Native.Nat.{ℕ, zero, suc, ◌+◌, ◌-◌, ◌≤◌, ◌<◌}
use native.Mathlib.Omega.{arith}
use native.Mathlib.Nat.{add-zero}
use lib.Dec.{ltb}
use lib.ListN.{length}
use borrow.Author.Tests.{eq-eqb, ne_eqb, lt-ltb, le-ltb, eqb-false}
use Rattle.base.specs.Pick.{pick}
use Rattle.base.specs.Said.{Said, gives, refuses}
use Rattle.record_entry.specs.declared.MBRPartitionEntry.{MBRPartitionEntry}
use Rattle.record_ebr.specs.declared.EBRHeader.{EBRHeader}
use Rattle.record_mbr.specs.declared.MBRHeader.{MBRHeader}
use Rattle.record_mbr.specs.Mbr.{primaries, extended_of}
use Rattle.extract.specs.Disk.{Disk}
use Rattle.extract.specs.Extract.{Good, disk_of, disk_sectors, record_of}
use Rattle.extract.specs.Answers.{check_says}
use Rattle.extract.specs.declared.Extract.{Extract}
use Rattle.extract.proofs.Disk.{size_of, found-sector}
use Rattle.table.specs.Table.{most}
use Rattle.chain.specs.Chain.{view, by_link, follows_in}
use Rattle.chain.specs.Walk.{lack_of}
use Rattle.chain.proofs.Decision.{follows→facts}
use Rattle.chain.proofs.View.{view→facts}
use Rattle.read_table.specs.Read.{read}
use Rattle.read_header.specs.Header.{header_on}
use Rattle.read_table.specs.Facts.{if_given, looking, behind, chain_looks, looked, Agree}
use Rattle.read_table.specs.Wanted.{absent, first_absent, wanted_says, looks_from, From, most_looks}
use Rattle.read_table.proofs.Looked.{read-like}

module _ (x : List ℕ) where
  -- one sector
  none_left : first_absent x [] ≡ None
  unfolding first_absent
  none_left = refl

  is-absent : (a : ℕ) (ls : List ℕ) → length (record_of x a) ≡ 0 → first_absent x (a ∷ ls) ≡ Some a
  unfolding first_absent
  is-absent a ls z = rw (eq-eqb (length (record_of x a)) 0 z)

  is-there : (a : ℕ) (ls : List ℕ) → (length (record_of x a) ≡ 0 → ⊥) → first_absent x (a ∷ ls) ≡ first_absent x ls
  unfolding first_absent
  is-there a ls z = rw (ne_eqb (length (record_of x a)) 0 z)

  module _ {A : Type 0} (a : ℕ) (s : Said A) (f : A → List ℕ) where
    inside : a < disk_sectors x → looking (disk_of x) a s f ≡ a ∷ if_given s f
    inside h = rw (size_of x, lt-ltb a (disk_sectors x) h)

    pub want-past : disk_sectors x ≤ a → None ≡ first_absent x (looking (disk_of x) a s f)
    want-past h = rw (size_of x, le-ltb a (disk_sectors x) h) (sym none_left)

    pub want-absent : a < disk_sectors x → length (record_of x a) ≡ 0 → Some a ≡ first_absent x (looking (disk_of x) a s f)
    want-absent h z = rw (inside h) (sym (is-absent a (if_given s f) z))

    pub want-there : a < disk_sectors x → (length (record_of x a) ≡ 0 → ⊥) → first_absent x (if_given s f) ≡ first_absent x (looking (disk_of x) a s f)
    want-there h z = rw (inside h) (sym (is-there a (if_given s f) z))

  -- what is met at a sector
  module _ (a : ℕ) (f : EBRHeader → List ℕ) where
    wanted-at : (s : Said EBRHeader) → first_absent x (looking (disk_of x) a s f) ≡ pick (ltb a (disk_sectors x)) (pick (absent x a) (Some a) (first_absent x (if_given s f))) None
    unfolding first_absent
    wanted-at s = rw (size_of x) (go (ltb a (disk_sectors x)))
      where
        go : (b : Bool) → first_absent x (pick b (a ∷ if_given s f) []) ≡ pick b (pick (absent x a) (Some a) (first_absent x (if_given s f))) None
        go true = refl
        go false = refl

    pub want-lack : (s : Said EBRHeader) (b : ℕ) → Some b ≡ lack_of x a → Some b ≡ first_absent x (looking (disk_of x) a s f)
    want-lack s b h = go (ltb a (disk_sectors x)) (absent x a) h ∙ sym (wanted-at s)
      where
        go : (p q : Bool) → Some b ≡ pick p (pick q (Some a) None) None → Some b ≡ pick p (pick q (Some a) (first_absent x (if_given s f))) None
        go true true h = h
        go true false h = let w : ◌≡◌ {A = ℕ} 0 1 = cc in absurd (omega arith)
        go false q h = let w : ◌≡◌ {A = ℕ} 0 1 = cc in absurd (omega arith)

    pub want-shut : (s : Said EBRHeader) (k : ℕ) → None ≡ lack_of x a → refuses k ≡ s → None ≡ first_absent x (looking (disk_of x) a s f)
    want-shut s k h q = rw (← q) (go (ltb a (disk_sectors x)) (absent x a) h ∙ sym (wanted-at (refuses k)))
      where
        go : (p q : Bool) → None ≡ pick p (pick q (Some a) None) None → None ≡ pick p (pick q (Some a) (first_absent x [])) None
        go true true h = h
        go true false h = sym none_left
        go false q h = refl

    pub want-behind : (h : EBRHeader) → None ≡ lack_of x a → gives h ≡ view (disk_of x) a → first_absent x (f h) ≡ first_absent x (looking (disk_of x) a (view (disk_of x) a) f)
    want-behind h n q =
        let z : ltb a (disk_sectors x) ≡ true = lt-ltb a (disk_sectors x) (rw (size_of x) at (view→facts (disk_of x) a h (sym q)).0) in
        rw (← q) (rw z (go (absent x a) (rw z at n)) ∙ sym (wanted-at (gives h)))
      where
        go : (b : Bool) → None ≡ pick b (Some a) None → first_absent x (f h) ≡ pick b (Some a) (first_absent x (f h))
        go true h = let w : ◌≡◌ {A = ℕ} 0 1 = cc in absurd (omega arith)
        go false h = refl

-- behind an EBR
module _ (x : List ℕ) (d : Disk) (X m rel : ℕ) (h : EBRHeader) where
  pub want-refused : (k : ℕ) → refuses k ≡ follows_in m X rel h → None ≡ first_absent x (behind d X m rel h)
  unfolding behind
  want-refused k q = go m q
    where
      go : (m : ℕ) → refuses k ≡ follows_in m X rel h → None ≡ first_absent x (behind d X m rel h)
      go zero q = sym (none_left x)
      go (suc m) q = rw (← q) (sym (none_left x))

  pub want-end : gives None ≡ follows_in m X rel h → None ≡ first_absent x (behind d X m rel h)
  unfolding behind
  want-end q = go m q
    where
      go : (m : ℕ) → gives None ≡ follows_in m X rel h → None ≡ first_absent x (behind d X m rel h)
      go zero q = sym (none_left x)
      go (suc m) q = rw (← q) (sym (none_left x))

  pub want-link : (r : ℕ) → gives (Some r) ≡ follows_in m X rel h → first_absent x (looks_from d X (m - 1) r) ≡ first_absent x (behind d X m rel h)
  unfolding behind
  want-link r q = go m (follows→facts m (X + rel) rel h.partition_1.starting_lba h.partition_2.starting_lba (Some r) (sym q)).0 q
    where
      go : (m : ℕ) → 0 < m → gives (Some r) ≡ follows_in m X rel h → first_absent x (looks_from d X (m - 1) r) ≡ first_absent x (behind d X m rel h)
      go zero z q = absurd (omega arith)
      go (suc m) z q =
          let i : suc m - 1 ≡ m = omega arith in
          rw (← q) (ap (λ (j : ℕ). first_absent x (looks_from d X j r)) i)

-- from sector 0 on
pub want-header-bad : (x : List ℕ) (k : ℕ) (f : MBRHeader → List ℕ) → refuses k ≡ header_on (disk_of x)
    → None ≡ first_absent x (if_given (header_on (disk_of x)) f)
want-header-bad x k f q = rw (← q) (sym (none_left x))

pub want-header : (x : List ℕ) (h : MBRHeader) (f : MBRHeader → List ℕ) → gives h ≡ header_on (disk_of x)
    → first_absent x (f h) ≡ first_absent x (if_given (header_on (disk_of x)) f)
want-header x h f q = rw (← q)

pub want-looked : (x : List ℕ) → first_absent x (looking (disk_of x) 0 (header_on (disk_of x)) (λ h. chain_looks (disk_of x) (extended_of (primaries h)))) ≡ first_absent x (looked (disk_of x))
unfolding looked
want-looked x = refl

pub want-no-chain : (x : List ℕ) (d : Disk) (o : Option MBRPartitionEntry) → o ≡ None → None ≡ first_absent x (chain_looks d o)
unfolding chain_looks
want-no-chain x d o e = rw e (sym (none_left x))

pub want-chain : (x : List ℕ) (d : Disk) (o : Option MBRPartitionEntry) (e : MBRPartitionEntry) → o ≡ Some e
    → first_absent x (looks_from d e.starting_lba most 0) ≡ first_absent x (chain_looks d o)
unfolding chain_looks
want-chain x d o e q =
    rw q (ap (λ (a : ℕ). first_absent x (looking d a (view d a) (behind d e.starting_lba most 0))) (add-zero e.starting_lba))

-- a refused extract, and a good one
pub want-bad : (x : List ℕ) (k : ℕ) → refuses k ≡ check_says x → refuses k ≡ wanted_says x
unfolding wanted_says
want-bad x k e = rw (← e)

pub want-good : (x : List ℕ) (e : Extract) → gives e ≡ check_says x → gives (first_absent x (looked (disk_of x))) ≡ wanted_says x
unfolding wanted_says
want-good x e q = rw (← q)

-- an extract of a disk's records that wants nothing reads as that disk
all_there : (d : Disk) (x : List ℕ) → Good x → From d x → (ls : List ℕ) → first_absent x ls ≡ None → Agree (disk_of x) d ls
unfolding first_absent
all_there d x g f [] h = tt
all_there d x g f (a ∷ ls) h = go (all_there d x g f ls) (absent x a) refl h
  where
    go : (first_absent x ls ≡ None → Agree (disk_of x) d ls) → (b : Bool) → absent x a ≡ b → pick b (Some a) (first_absent x ls) ≡ None
        → ((disk_of x).sector a ≡ d.sector a) × Agree (disk_of x) d ls
    go ih true q e = let w : ◌≡◌ {A = ℕ} 0 1 = cc in absurd (omega arith)
    go ih false q e =
        let z = eqb-false (length (record_of x a)) 0 q in
        ((found-sector x g a (omega arith)).1 ∙ f.same a q, ih e)

pub wants-nothing : (d : Disk) (x : List ℕ) → Good x → From d x → first_absent x (looked (disk_of x)) ≡ None → read (disk_of x) ≡ read d
wants-nothing d x g f h = read-like (disk_of x) d f.width f.size (all_there d x g f (looked (disk_of x)) h)

-- reading looks at no more than the most sectors
behind-few : (d : Disk) (X m rel : ℕ) (h : EBRHeader) → length (behind d X m rel h) ≤ m
unfolding behind
behind-few d X zero rel h = omega arith
behind-few d X (suc m) rel h = go (λ r y. behind-few d X m r y) (follows_in (suc m) X rel h)
  where
    look : ((r : ℕ) (y : EBRHeader) → length (behind d X m r y) ≤ m) → (r : ℕ) (b : Bool) (s : Said EBRHeader) → length (pick b ((X + r) ∷ if_given s (behind d X m r)) []) ≤ suc m
    look ih r true (gives y) = omega (arith, ih r y)
    look ih r true (refuses k) = omega arith
    look ih r false s = omega arith

    go : ((r : ℕ) (y : EBRHeader) → length (behind d X m r y) ≤ m) → (s : Said (Option ℕ)) → length (if_given s (by_link [] (looks_from d X m))) ≤ suc m
    go ih (refuses k) = omega arith
    go ih (gives None) = omega arith
    go ih (gives (Some r)) = look ih r (ltb (X + r) d.size) (view d (X + r))

chain-few : (d : Disk) (o : Option MBRPartitionEntry) → length (chain_looks d o) ≤ 1 + most
unfolding chain_looks
chain-few d None = omega arith
chain-few d (Some e) = go (ltb e.starting_lba d.size) (view d e.starting_lba)
  where
    go : (b : Bool) (s : Said EBRHeader) → length (pick b (e.starting_lba ∷ if_given s (behind d e.starting_lba most 0)) []) ≤ 1 + most
    go true (gives y) = omega (arith, behind-few d e.starting_lba most 0 y)
    go true (refuses k) = omega arith
    go false s = omega arith

pub looked-few : (d : Disk) → length (looked d) ≤ most_looks
unfolding looked
looked-few d = go (ltb 0 d.size) (header_on d)
  where
    go : (b : Bool) (s : Said MBRHeader) → length (pick b (0 ∷ if_given s (λ h. chain_looks d (extended_of (primaries h)))) []) ≤ most_looks
    go true (gives h) = omega (arith, chain-few d (extended_of (primaries h)))
    go true (refuses k) = omega arith
    go false s = omega arith
