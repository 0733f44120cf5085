use Rattle.read_listing.proofs.text.Text.{Written}
use Rattle.read_listing.specs.Lines.{entry_lines}
use Rattle.table.specs.Table.{logicals, parts}
use Rattle.read_listing.specs.Listing.{line_room}
use lib.ListN.{length, take}
use Prim.Native.Nat.{◌+◌, ◌*◌, ◌≤◌}
use mathlib.Core.Path.{◌≡◌}
use Rattle.read_listing.proofs.entry_lines.put_logicals.Given as goal

abbrev pub invariant-loop-i : goal.invariant-loop-i
invariant-loop-i l =
    (length l.d ≡ length l.initial.d)
    × (l.end ≤ l.at + line_room * l.i)
    × Written l.initial.d l.d l.at l.end (entry_lines 5 (parts (take l.i (logicals l.fn.t))))
