use Rattle.base.specs.Said.{answered}
use lib.ListN.{length}
use mathlib.Core.Path.{sym, ap, ◌∙◌}
use Rattle.block.specs.Block.{table_in}
use Rattle.write_rules.proofs.Said.{table-fine}
use Rattle.write_table.proofs.InPlace.{writing-refused, writing-done}
use Rattle.write_table.proofs.write_in_place.Goals as goal

pub put_written-requires : goal.put_written-requires
put_written-requires c =
    (c.requires, table-fine (table_in c.args.b.now) c.args.x.now (length c.args.out.now) _ (sym (ap answered c.in_ok-n.was) ∙ c.write_over.ensures.result_value))

pub returns-in_err-n-clause-b_after_2 : goal.returns-in_err-n-clause-b_after_2
returns-in_err-n-clause-b_after_2 c =
    let both = writing-refused c.args.b.now c.args.x.now c.args.out.now c.requires _ _ (sym c.write_over.ensures.result_value ∙ ap answered c.in_err-n.was) c.write_over.ensures.out_after in
    both.1.1.1

pub returns-clause-b_after_2 : goal.returns-clause-b_after_2
returns-clause-b_after_2 c =
    let both = writing-done c.args.b.now c.args.x.now c.args.out.now c.requires _ _ _ (sym c.write_over.ensures.result_value ∙ ap answered c.in_ok-n.was) c.write_over.ensures.out_after (c.put_written.ensures.b_after, c.put_written.ensures.b_after_2) in
    both.1.1.1
