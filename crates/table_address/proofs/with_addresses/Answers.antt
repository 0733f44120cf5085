use mathlib.Core.Path.{refl}
use Rattle.table_address.proofs.with_addresses.Goals as goal

pub returns : goal.returns
returns c = refl
