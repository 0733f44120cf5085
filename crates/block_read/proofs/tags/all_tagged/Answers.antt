use Rattle.block_read.proofs.tags.Tags.{first-right}
use Rattle.table.specs.Table.{most}
use mathlib.Core.Path.{sym, ◌∙◌}
use Prim.Native.Nat.{◌*◌, ◌/◌, ◌%◌}
use Rattle.block_read.proofs.tags.all_tagged.Goals as goal

pub returns-then-words_tagged : goal.returns-then-words_tagged
returns-then-words_tagged c =
    c.rest_tagged.ensures ∙ sym (first-right c.args.b.now (8 * (most / 8)) (most % 8) (sym c.words_tagged.ensures ∙ c.if-words_tagged.true))
