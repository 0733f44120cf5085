use mathlib.Core.Path.{sym, ap, ◌∙◌}
use Rattle.table.specs.Table.{logicals}
use Rattle.careful_stores.proofs.ebr_store.Laws.{link-none}
use Rattle.careful_remove.proofs.remove_writer.Lists.{place_none}
use Rattle.careful_stores.specs.Linked.{link_behind}
use borrow.Author.Rules.{rules}
use Rattle.careful_remove.proofs.remove_writer.link_at.Goals as goal

pub returns-in-None : goal.returns-in-None
returns-in-None c =
    c.empty.ensures ∙ sym (ap (link_behind c.args.e) (place_none (logicals c.args.t) c.args.i (search rules)) ∙ link-none c.args.e)
