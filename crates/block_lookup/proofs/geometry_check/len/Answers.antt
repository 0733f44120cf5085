use mathlib.Core.Path.{sym}
use borrow.Author.Tests.{le-leb}
use Rattle.table_lookup.specs.Numbers.{len_says}
use Rattle.block.proofs.calls.Laws.{passed, look-done}
use native.Mathlib.Omega.{arith}
use Rattle.block_lookup.proofs.geometry_check.len.Goals as goal

pub overflow_cast-result : goal.overflow_cast-result
overflow_cast-result c = omega (arith, (passed c.args.b.now (sym c.in_ok-check.ensures)).few, c.count-n.ensures)

pub overflow_add-result : goal.overflow_add-result
overflow_add-result c = omega (arith, (passed c.args.b.now (sym c.in_ok-check.ensures)).few, c.count-n.ensures)

pub returns : goal.returns
returns c =
    let h = sym c.in_ok-check.ensures in
    look-done c.args.b.now len_says _ h (rw (le-leb _ _ (passed c.args.b.now h).few, c.count-n.ensures))
