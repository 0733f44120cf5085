use Rattle.std.proofs.Common.{◌+◌}
use Rattle.read_chain.proofs.+ebr_step_link_step.Given as goal

abbrev pub decreases-ebr_step : goal.decreases-ebr_step
decreases-ebr_step l = l.left + l.left

abbrev pub decreases-link_step : goal.decreases-link_step
decreases-link_step l = l.left + l.left + 1
