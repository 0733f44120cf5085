use Rattle.base.proofs.Tests.{tests}
use Rattle.record_chs.proofs.CHS.from_lba_exact.Goals as goal

pub returns-then-size-eq0 : goal.returns-then-size-eq0
returns-then-size-eq0 c = rw (← c.cylinder_size-size.ensures.0) (search tests)

pub returns-then-cylinder-gt1023 : goal.returns-then-cylinder-gt1023
returns-then-cylinder-gt1023 c = rw (← c.cylinder_size-size.ensures.0) (search tests)

pub returns-then-cylinders-cylinder : goal.returns-then-cylinders-cylinder
returns-then-cylinders-cylinder c = rw (← c.cylinder_size-size.ensures.0) (search tests)

pub address_of-requires : goal.address_of-requires
address_of-requires c = rw (← c.cylinder_size-size.ensures.0) (c.if-size-eq0.false, c.if-cylinder-gt1023.false)

pub returns : goal.returns
returns c = rw (c.address_of.ensures, ← c.cylinder_size-size.ensures.0) (search tests)
