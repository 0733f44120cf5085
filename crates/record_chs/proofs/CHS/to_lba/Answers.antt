use Rattle.base.proofs.Tests.{tests}
use Rattle.record_chs.proofs.CHS.to_lba.Goals as goal

pub returns-then-behind-eq0 : goal.returns-then-behind-eq0
returns-then-behind-eq0 c = rw (← c.behind_lba-behind.ensures) (search tests)

pub returns : goal.returns
returns c = rw (← c.behind_lba-behind.ensures) (search tests)
