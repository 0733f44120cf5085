use Rattle.read_table.proofs.+wanted_from.Given as goal

abbrev pub decreases-wanted_from : goal.decreases-wanted_from
decreases-wanted_from l = l.left
