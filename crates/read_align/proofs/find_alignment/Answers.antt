use Rattle.read_align.proofs.Laws.{align-none}
use Rattle.read_align.proofs.Euclid.{align-some, align-seven}
use borrow.Author.Rules.{rules}
use borrow.Author.Tests.{eqb-true, eqb-false}
use mathlib.Core.Path.{sym, ◌∙◌}
use Rattle.read_align.proofs.find_alignment.Goals as goal

pub returns-then-is_empty : goal.returns-then-is_empty
returns-then-is_empty c = sym (align-none c.args.starts.now (eqb-true _ _ (sym c.is_empty.ensures ∙ c.if-is_empty.true)))

pub returns-then-g-eq0 : goal.returns-then-g-eq0
returns-then-g-eq0 c =
    sym (align-seven c.args.starts.now c.common_divisor-g.result (eqb-false _ _ (sym c.is_empty.ensures ∙ c.if-is_empty.false)) c.common_divisor-g.ensures (search rules))

pub returns : goal.returns
returns c =
    sym (align-some c.args.starts.now c.common_divisor-g.result c.largest_divisor.result (eqb-false _ _ (sym c.is_empty.ensures ∙ c.if-is_empty.false)) c.common_divisor-g.ensures (search rules) c.largest_divisor.ensures)
