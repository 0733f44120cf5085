use mathlib.Core.Path.{sym, ◌∙◌}
use Rattle.base.proofs.Tests.{tests}
use Rattle.extract.proofs.header_rules.header_rules.Goals as goal

pub returns-then-not-size_ok : goal.returns-then-not-size_ok
returns-then-not-size_ok c = search (tests, sym c.size_ok.ensures ∙ c.if-not-size_ok.true)

pub returns-then-n-gt-RECORDS : goal.returns-then-n-gt-RECORDS
returns-then-n-gt-RECORDS c = search (tests, sym c.size_ok.ensures ∙ c.if-not-size_ok.false)

pub returns-then-list-ne24 : goal.returns-then-list-ne24
returns-then-list-ne24 c = search (tests, sym c.size_ok.ensures ∙ c.if-not-size_ok.false)

pub returns-then-records-n : goal.returns-then-records-n
returns-then-records-n c = search (tests, sym c.size_ok.ensures ∙ c.if-not-size_ok.false)

pub returns-then-total-n : goal.returns-then-total-n
returns-then-total-n c = search (tests, sym c.size_ok.ensures ∙ c.if-not-size_ok.false)

pub returns-then-total-long : goal.returns-then-total-long
returns-then-total-long c = search (tests, sym c.size_ok.ensures ∙ c.if-not-size_ok.false)

pub returns : goal.returns
returns c = search (tests, sym c.size_ok.ensures ∙ c.if-not-size_ok.false)
