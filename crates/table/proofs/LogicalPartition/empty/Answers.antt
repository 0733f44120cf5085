use Rattle.table.proofs.LogicalPartition.empty.Goals as goal

pub returns : goal.returns
returns c = cc
