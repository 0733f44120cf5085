use mathlib.Core.Path.{sym}
use borrow.Author.Tests.{le-leb}
use Rattle.table_push.specs.Answers.{cylinder_size_says}
use Rattle.block.proofs.calls.Laws.{passed, look-done}
use Rattle.block.proofs.Inside.{heads-in, sectors-in}
use Rattle.block_lookup.proofs.geometry_check.get_cylinder_size.Goals as goal

pub returns : goal.returns
returns c =
    let h = sym c.in_ok-check.ensures in
    look-done c.args.b.now cylinder_size_says _ h (rw (le-leb _ _ (passed c.args.b.now h).few, heads-in c.args.b.now, sectors-in c.args.b.now))
