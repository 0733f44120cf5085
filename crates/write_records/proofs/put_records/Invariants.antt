use lib.ListN.{take}
use mathlib.Core.Path.{◌≡◌}
use Rattle.base.specs.Put.{put}
use Rattle.extract_lay.specs.Plan.{pieces}
use Rattle.block.specs.Block.{table_in}
use Rattle.write_rules.specs.AsWritten.{as_written_in}
use Rattle.write_rules.specs.Sources.{bytes_from, stores_of}
use Rattle.write_records.proofs.put_records.Given as goal

abbrev pub invariant-loop-i : goal.invariant-loop-i
invariant-loop-i l = l.out ≡ put l.initial.out l.at (pieces (λ s. bytes_from l.x (stores_of l.first l.e (as_written_in (table_in l.b) l.e.starting_lba)) s.source) (take l.i l.slots))
