-- Adding what is wanted ends after as many records as reading looks at, in an extract that reads as the disk. Assumes nothing.
use mathlib.Core.Path.{◌≡◌, refl, sym, ◌∙◌}
use mathlib.Core.List.{List, [], ◌∷◌}
use mathlib.Core.Bool.{Bool, true, false}
use Rattle.std.specs.Prelude.{Option, None, Some}
use mathlib.Core.Logic.{inl, inr}
use Prim.Native.Nat.{ℕ, zero, suc, ◌+◌, ◌≤◌, ◌<◌}
use native.Mathlib.Omega.{arith}
use lib.Dec.{ltb}
use lib.ListN.{length}
use borrow.Author.Tests.{eqb-false}
use Rattle.base.specs.Pick.{pick}
use Rattle.base.specs.Said.{Said, gives, refuses}
use Rattle.record_entry.specs.declared.MBRPartitionEntry.{MBRPartitionEntry}
use Rattle.record_ebr.specs.declared.EBRHeader.{EBRHeader}
use Rattle.record_mbr.specs.Mbr.{primaries, extended_of}
use Rattle.extract.specs.Disk.{Disk}
use Rattle.extract.specs.Extract.{Good, disk_of, record_of}
use Rattle.extract.proofs.Disk.{found-sector}
use Rattle.table.specs.Table.{most}
use Rattle.chain.specs.Chain.{view, by_link, follows_in}
use Rattle.chain.proofs.View.{view-same}
use Rattle.read_header.specs.Header.{header_on}
use Rattle.read_table.specs.Read.{read}
use Rattle.read_table.specs.Facts.{if_given, looking, behind, chain_looks, looked}
use Rattle.read_table.specs.Wanted.{absent, first_absent, From, most_looks}
use Rattle.read_table.specs.Collect.{Has, missing, Collected, enough, more}
use Rattle.read_table.proofs.Facts.{header-same}
use Rattle.read_table.proofs.Wants.{wants-nothing, looked-few}

nothing : {A : Type 0} {a : ℕ} → ◌≡◌ {A = Option ℕ} None (Some a) → A
nothing h = let w : ◌≡◌ {A = ℕ} 0 1 = cc in absurd (omega arith)

module _ (d : Disk) (x : List ℕ) (g : Good x) (f : From d x) where
  abbrev e : Disk
  e = disk_of x

  -- a sector that is there holds what the disk holds
  there-same : (a : ℕ) → absent x a ≡ false → e.sector a ≡ d.sector a
  there-same a q =
      let z = eqb-false (length (record_of x a)) 0 q in
      (found-sector x g a (omega arith)).1 ∙ f.same a q

  -- what is wanted among what a sector leads to is looked at on the disk too
  looking-has : {A : Type 0} (c : ℕ) (s t : Said A) (u v : A → List ℕ) (a : ℕ) → (absent x c ≡ false → s ≡ t)
      → ((h : A) → first_absent x (u h) ≡ Some a → Has a (v h)) → first_absent x (looking e c s u) ≡ Some a → Has a (looking d c t v)
  unfolding first_absent
  looking-has c s t u v a same ih h = go (ltb c e.size) refl h
    where
      led : (r : Said _) → s ≡ r → t ≡ r → first_absent x (if_given r u) ≡ Some a → Has a (if_given r v)
      led (gives y) p q k = ih y k
      led (refuses n) p q k = nothing k

      here : (b : Bool) → absent x c ≡ b → pick b (Some c) (first_absent x (if_given s u)) ≡ Some a → Has a (c ∷ if_given t v)
      here true q k =
          let z : c ≡ a = cc in
          inl (sym z)
      here false q k = inr (rw (← same q) (led s refl (sym (same q)) k))

      go : (b : Bool) → ltb c e.size ≡ b → first_absent x (pick b (c ∷ if_given s u) []) ≡ Some a → Has a (looking d c t v)
      go true q k = rw (← f.size, q) (here (absent x c) refl k)
      go false q k = nothing k

  view-there : (a : ℕ) → absent x a ≡ false → view e a ≡ view d a
  view-there a q = view-same e d a f.size (there-same a q)

  behind-has : (X m rel a : ℕ) (h : EBRHeader) → first_absent x (behind e X m rel h) ≡ Some a → Has a (behind d X m rel h)
  unfolding behind first_absent
  behind-has X zero rel a h k = nothing k
  behind-has X (suc m) rel a h k = go (λ r y. behind-has X m r a y) (follows_in (suc m) X rel h) k
    where
      looks : Disk → ℕ → List ℕ
      looks w r = looking w (X + r) (view w (X + r)) (behind w X m r)

      go : ((r : ℕ) (y : EBRHeader) → first_absent x (behind e X m r y) ≡ Some a → Has a (behind d X m r y)) → (s : Said (Option ℕ))
          → first_absent x (if_given s (by_link [] (looks e))) ≡ Some a → Has a (if_given s (by_link [] (looks d)))
      go ih (refuses j) k = nothing k
      go ih (gives None) k = nothing k
      go ih (gives (Some r)) k = looking-has (X + r) (view e (X + r)) (view d (X + r)) (behind e X m r) (behind d X m r) a (view-there (X + r)) (ih r) k

  chain-has : (o : Option MBRPartitionEntry) (a : ℕ) → first_absent x (chain_looks e o) ≡ Some a → Has a (chain_looks d o)
  unfolding chain_looks first_absent
  chain-has None a k = nothing k
  chain-has (Some p) a k =
      let X = p.starting_lba in
      looking-has X (view e X) (view d X) (behind e X most 0) (behind d X most 0) a (view-there X) (behind-has X most 0 a) k

  -- what an extract wants, reading the disk looks at
  pub wanted-looked : (a : ℕ) → first_absent x (looked e) ≡ Some a → Has a (looked d)
  unfolding looked
  wanted-looked a k =
      looking-has 0 (header_on e) (header_on d) (λ h. chain_looks e (extended_of (primaries h))) (λ h. chain_looks d (extended_of (primaries h))) a
      (λ q. header-same e d f.size (there-same 0 q)) (λ h. chain-has (extended_of (primaries h)) a) k

-- it has no record yet
wanted-absent : (x : List ℕ) (ls : List ℕ) (a : ℕ) → first_absent x ls ≡ Some a → absent x a ≡ true
unfolding first_absent
wanted-absent x [] a h = nothing h
wanted-absent x (c ∷ ls) a h = go (wanted-absent x ls a) (absent x c) refl h
  where
    go : (first_absent x ls ≡ Some a → absent x a ≡ true) → (b : Bool) → absent x c ≡ b → pick b (Some c) (first_absent x ls) ≡ Some a → absent x a ≡ true
    go ih true q k =
        let z : c ≡ a = cc in
        rw z at q
    go ih false q k = ih k

module _ (x y : List ℕ) (keeps : (b : ℕ) → absent x b ≡ false → absent y b ≡ false) where
  missing-less : (ls : List ℕ) → missing y ls ≤ missing x ls
  unfolding missing
  missing-less [] = omega arith
  missing-less (c ∷ ls) = go (missing-less ls) (absent x c) (absent y c) refl refl
    where
      go : missing y ls ≤ missing x ls → (b d : Bool) → absent x c ≡ b → absent y c ≡ d
          → pick d (suc (missing y ls)) (missing y ls) ≤ pick b (suc (missing x ls)) (missing x ls)
      go ih true true p q = omega arith
      go ih true false p q = omega arith
      go ih false false p q = ih
      go ih false true p q =
          let w : ◌≡◌ {A = Bool} true false = sym q ∙ keeps c p in
          let z : ◌≡◌ {A = ℕ} 0 1 = cc in
          absurd (omega arith)

  missing-falls : (ls : List ℕ) (a : ℕ) → Has a ls → absent x a ≡ true → absent y a ≡ false → missing y ls < missing x ls
  unfolding missing
  missing-falls [] a h p q = absurd h
  missing-falls (c ∷ ls) a (inl z) p q =
      let p' : absent x c ≡ true = rw z at p in
      let q' : absent y c ≡ false = rw z at q in
      rw (p', q') (omega (arith, missing-less ls))
  missing-falls (c ∷ ls) a (inr h) p q = go (missing-falls ls a h p q) (absent x c) (absent y c) refl refl
    where
      go : missing y ls < missing x ls → (b d : Bool) → absent x c ≡ b → absent y c ≡ d
          → pick d (suc (missing y ls)) (missing y ls) < pick b (suc (missing x ls)) (missing x ls)
      go ih true true p q = omega arith
      go ih true false p q = omega arith
      go ih false false p q = ih
      go ih false true p q =
          let w : ◌≡◌ {A = Bool} true false = sym q ∙ keeps c p in
          let z : ◌≡◌ {A = ℕ} 0 1 = cc in
          absurd (omega arith)

missing-most : (x ls : List ℕ) → missing x ls ≤ length ls
unfolding missing
missing-most x [] = omega arith
missing-most x (c ∷ ls) = go (absent x c) (missing-most x ls)
  where
    go : (b : Bool) → missing x ls ≤ length ls → pick b (suc (missing x ls)) (missing x ls) ≤ suc (length ls)
    go true h = omega arith
    go false h = omega arith

collected-missing : (d : Disk) (x z : List ℕ) (n : ℕ) → Good x → From d x → Collected d x n z → n ≤ missing x (looked d)
collected-missing d x z zero g f c = omega arith
collected-missing d x z (suc n) g f (more {y = y} {a = a} w s c) =
    let h : n ≤ missing y (looked d) = collected-missing d y z n s.good s.from c in
    omega (arith, missing-falls x y s.keeps (looked d) a (wanted-looked d x g f a w) (wanted-absent x (looked (disk_of x)) a w) s.there)

-- no more records are wanted, one after another, than reading looks at
pub collected-few : (d : Disk) (x z : List ℕ) (n : ℕ) → Good x → From d x → Collected d x n z → n ≤ most_looks
collected-few d x z n g f c = omega (arith, collected-missing d x z n g f c, missing-most x (looked d), looked-few d)

-- and once none is left, the extract reads as the disk
pub collected-reads : (d : Disk) (x z : List ℕ) (n : ℕ) → Good x → From d x → Collected d x n z → first_absent z (looked (disk_of z)) ≡ None → read (disk_of z) ≡ read d
collected-reads d x z n g f enough h = wants-nothing d x g f h
collected-reads d x z (suc n) g f (more {y = y} w s c) h = collected-reads d y z n s.good s.from c h
