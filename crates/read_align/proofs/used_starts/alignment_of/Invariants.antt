use Rattle.arrayvec.specs.ArrayVec.{array_vec_len}
use Rattle.record_mbr.specs.Mbr.{primaries}
use Rattle.chain.specs.Walk.{part_in}
use Rattle.read_align.specs.Align.{used_starts}
use lib.ListN.{take}
use Prim.Native.Nat.{◌+◌, ◌≤◌}
use mathlib.Core.List.{◌++◌, map}
use mathlib.Core.Path.{◌≡◌}
use Rattle.read_align.proofs.used_starts.alignment_of.Given as goal

abbrev pub invariant-loop-i : goal.invariant-loop-i
invariant-loop-i l =
    (l.starts.items ≡ used_starts (primaries l.fn.h ++ map (part_in l.x) (take l.i-index l.found))) × (array_vec_len l.starts ≤ 4 + l.i-index)
