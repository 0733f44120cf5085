use Rattle.chain.specs.Chain.{logicals_of}
use mathlib.Core.Path.{refl}
use Rattle.read_table.proofs.chain_of.Goals as goal

pub returns-in-None : goal.returns-in-None
unfolding logicals_of
returns-in-None c = rw c.in-None.is record { value = refl; noted_all = tt }

pub returns-in-Some : goal.returns-in-Some
returns-in-Some c = rw c.in-Some.is record { value = c.read_chain.ensures.value; noted_all = c.read_chain.ensures.noted_all }
