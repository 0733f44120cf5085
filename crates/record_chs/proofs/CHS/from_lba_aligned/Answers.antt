use Prim.Native.Nat.{◌-◌}
use native.Mathlib.Omega.{arith}
use Rattle.base.proofs.Tests.{tests}
use Rattle.record_chs.proofs.Small.{quotient}
use Rattle.record_chs.proofs.CHS.from_lba_aligned.Goals as goal

pub returns-then-lba-eq0 : goal.returns-then-lba-eq0
returns-then-lba-eq0 c = search tests

pub returns-then-step-eq0 : goal.returns-then-step-eq0
returns-then-step-eq0 c = rw (← c.cylinder_size-step.ensures.0) (search tests)

pub overflow_add-next : goal.overflow_add-next
overflow_add-next c = omega (arith, quotient (c.args.lba - 1) c.cylinder_size-step.result)

pub returns-then-next-gt1023 : goal.returns-then-next-gt1023
returns-then-next-gt1023 c = rw (← c.cylinder_size-step.ensures.0) (search tests)

pub returns-then-cylinders-next : goal.returns-then-cylinders-next
returns-then-cylinders-next c = rw (← c.cylinder_size-step.ensures.0) (search tests)

pub returns : goal.returns
returns c = rw (← c.cylinder_size-step.ensures.0) (search tests)
