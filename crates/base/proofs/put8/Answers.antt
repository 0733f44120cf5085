use mathlib.Core.List.{[], ◌∷◌}
use Rattle.base.proofs.Put.{laid-put}
use borrow.Author.Rules.{rules}
use Rattle.base.proofs.put8.Goals as goal

pub returns : goal.returns
returns c = laid-put _ _ (c.args.v ∷ []) (search rules)
