-- The turns of a search for the first extended entry. Assumes nothing.
use mathlib.Core.Path.{◌≡◌, ◌∙◌}
use mathlib.Core.List.{List}
use mathlib.Core.Bool.{true, false}
use Rattle.std.specs.Prelude.{None, Some}
use Prim.Native.Nat.{ℕ, ◌+◌, ◌≤◌, ◌<◌}
use native.Mathlib.Numerals.{add-one}
use lib.ListN.{length, get_or, drop, drop_of_length-le}
use lib.Seq.{drop-cons}
use Rattle.base.specs.Pick.{pick}
use Rattle.record_entry.specs.declared.MBRPartitionEntry.{MBRPartitionEntry}
use Rattle.record_entry.specs.Entry.{no_entry, extended}
use Rattle.record_mbr.specs.Mbr.{extended_of}

module _ (es : List MBRPartitionEntry) (i : ℕ) where
  one_more : i < length es
      → extended_of (drop i es) ≡ pick (extended (get_or es i no_entry).sys) (Some (get_or es i no_entry)) (extended_of (drop (i + 1) es))
  unfolding extended_of
  one_more h = rw (drop-cons es i no_entry h, add-one i)

  -- the entry in turn is extended, or it is not
  pub is-first : i < length es → extended (get_or es i no_entry).sys ≡ true → extended_of (drop i es) ≡ Some (get_or es i no_entry)
  is-first h t = one_more h ∙ rw t

  pub goes_on : i < length es → extended (get_or es i no_entry).sys ≡ false → extended_of (drop i es) ≡ extended_of (drop (i + 1) es)
  goes_on h t = one_more h ∙ rw t

  -- none is left
  pub at-end : length es ≤ i → extended_of (drop i es) ≡ None
  unfolding extended_of
  at-end h = rw (drop_of_length-le es h)
