-- What the search among the primaries leads to. Assumes nothing.
use mathlib.Core.Path.{◌≡◌, refl, ◌∙◌}
use mathlib.Core.Bool.{Bool, true, false}
use Rattle.std.specs.Prelude.{Option, Some}
use Prim.Native.Nat.{ℕ, ◌+◌, ◌≤◌, ◌<◌, ◌^◌}
use native.Mathlib.Omega.{arith}
use lib.Dec.{ltb}
use lib.ListN.{length, get_or, drop}
use borrow.Author.Tests.{le-leb, ltb-true, ltb-false}
use Rattle.base.specs.Pick.{pick}
use Rattle.base.specs.Said.{Said, gives, and_then}
use Rattle.record_entry.specs.declared.MBRPartitionEntry.{MBRPartitionEntry}
use Rattle.record_entry.specs.Entry.{no_entry, extended}
use Rattle.record_mbr.specs.Mbr.{primaries}
use Rattle.table.specs.declared.MBR.{MBR}
use Rattle.table.specs.Table.{most}
use Rattle.table_lookup.specs.declared.hits.Numbered.{Numbered}
use Rattle.table_lookup.specs.Hits.{holds_says, first_at, among_logicals, numbered}
use Rattle.table_lookup.specs.Find.{number_of, turned, find_says}
use Rattle.table_lookup.proofs.at_sector.Search.{among-few, found-logical}
use Rattle.block_lookup.proofs.after_hit.Laws.{hit}

pub leads : (t : MBR) (s : ℕ) (f : Said (Option Numbered)) → t.count ≤ most → first_at s 1 (primaries t.header) ≡ f → find_says t s ≡ and_then f (turned t s)
unfolding find_says
leads t s f c q = rw (le-leb _ _ c, q)

-- a hit among the primaries leads to what the search answers
pub hit-leads : (t : MBR) (s i : ℕ) (e : MBRPartitionEntry) → t.count ≤ most
    → first_at s 1 (primaries t.header) ≡ first_at s (1 + i) (drop i (primaries t.header))
    → (i < length (primaries t.header)) × (e ≡ get_or (primaries t.header) i no_entry)
    → holds_says s e ≡ gives true → find_says t s ≡ turned t s (Some (numbered (1 + i) e))
hit-leads t s i e c q w x = leads t s _ c (q ∙ hit s 1 i (primaries t.header) e w x)

-- the number of a partition that is found is one of the table's
pub found-small : (t : MBR) (s n : ℕ) → find_says t s ≡ gives (Some n) → n < 2 ^ 32
found-small t s n e = go (ltb n 5) refl
  where
    go : (x : Bool) → ltb n 5 ≡ x → n < 2 ^ 32
    go true f =
        let p : n < 5 = ltb-true _ _ f in
        omega arith
    go false f =
        let p : 5 ≤ n = ltb-false _ _ f in
        let q = found-logical t s n e p in
        omega (arith, q.0, q.1)

-- what a hit leads to, in a table that holds no more than it may, is a number of 32 bits where the hit's own is
pub turned-small : (t : MBR) (s n m : ℕ) (e : MBRPartitionEntry) → t.count ≤ most → m < 2 ^ 32 → turned t s (Some (numbered m e)) ≡ gives (Some n) → n < 2 ^ 32
turned-small t s n m e c h q = go (extended e.sys) q
  where
    go : (b : Bool) → pick b (number_of (among_logicals t s)) (gives (Some m)) ≡ gives (Some n) → n < 2 ^ 32
    go true g = omega (arith, among-few t s n g, c)
    go false g = let k : m ≡ n = cc in omega (arith, k, h)
