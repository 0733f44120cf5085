use mathlib.Core.Path.{refl}
use native.Mathlib.Omega.{arith}
use Rattle.table_push.proofs.request.Steps.{round-small, round-fits}
use borrow.Author.Rules.{rules}
use Rattle.table.specs.Table.{rounded}
use Rattle.table_push.proofs.request.round_up.Goals as goal

pub overflow_add-result : goal.overflow_add-result
overflow_add-result c = omega (arith, round-small c.args.align c.args.n (search rules) (search rules) (search rules))

pub overflow_cast-result : goal.overflow_cast-result
overflow_cast-result c = omega (arith, round-small c.args.align c.args.n (search rules) (search rules) (search rules))

pub overflow_mul-result : goal.overflow_mul-result
overflow_mul-result c = record { fits = round-fits c.args.align c.args.n (search rules) (search rules) (search rules) }

pub returns : goal.returns
unfolding rounded
returns c = refl
