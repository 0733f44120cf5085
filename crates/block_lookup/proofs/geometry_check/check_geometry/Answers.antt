use mathlib.Core.Path.{sym, ap, ◌∙◌}
use Rattle.base.specs.Said.{gives}
use borrow.Author.Tests.{le-leb}
use Rattle.table_push.specs.Answers.{check_geometry_says}
use Rattle.block.proofs.calls.Laws.{passed, look-done}
use Rattle.table_address.specs.Address.{complete}
use Rattle.block_lookup.proofs.geometry_check.check_geometry.Goals as goal

pub returns : goal.returns
returns c =
    let h = sym c.in_ok-check.ensures in
    look-done c.args.b.now check_geometry_says _ h (rw (le-leb _ _ (passed c.args.b.now h).few) (ap gives (c.is_complete.ensures ∙ ap complete c.geometry-g.ensures)))
