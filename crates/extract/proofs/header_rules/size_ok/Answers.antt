use borrow.Author.Rules.{rules}
use Prim.Native.Nat.{◌≤◌}
use Rattle.extract.proofs.header_rules.Size.{size-ones}
use Rattle.extract.proofs.header_rules.size_ok.Goals as goal

pub returns-then-contains : goal.returns-then-contains
returns-then-contains c =
    let low : 512 ≤ c.args.size = search rules in
    let high : c.args.size ≤ 4096 = search rules in
    size-ones c.args.size low high
