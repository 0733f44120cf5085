use Rattle.std.proofs.Common.{length}
use Rattle.station_stores.proofs.output.+show_after.Given as goal

abbrev pub decreases-show_after : goal.decreases-show_after
decreases-show_after l = length l.stores.now
