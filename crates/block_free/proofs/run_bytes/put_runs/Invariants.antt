use mathlib.Core.Path.{◌≡◌}
use lib.ListN.{length, take}
use Rattle.base.specs.Put.{put}
use Rattle.extract_lay.specs.Plan.{pieces}
use Rattle.block_free.specs.Runs.{run_part}
use Rattle.block_free.proofs.run_bytes.put_runs.Given as goal

abbrev pub invariant-loop-i : goal.invariant-loop-i
invariant-loop-i l = (length l.out ≡ length l.initial.out) × (l.out ≡ put l.initial.out 0 (pieces run_part (take l.i (take l.fn.x.count l.fn.x.at))))
