use native.Mathlib.Omega.{arith}
use mathlib.Core.Path.{sym, ap, subst, ◌∙◌}
use Rattle.block.specs.Block.{table_in, Passed}
use Rattle.block.specs.Fits.{TableFits}
use Rattle.block.proofs.Back.{table-back, block_reads}
use Rattle.block.proofs.calls.Laws.{passed}
use Rattle.block_write.proofs.Fits.{header-fits, slots-fit}
use Rattle.block_write.proofs.Parts.{all-written}
use borrow.Author.Rules.{rules}
use Rattle.block_write.proofs.put_all.Goals as goal

pub returns : goal.returns
returns c =
    let fits : TableFits c.args.t =
    record {
      size = search rules;
      header = header-fits c.args.t.header _ c.well_formed.1.0.1.1.1.0;
      long = (search rules);
      slots = slots-fit c.args.t.logical_partitions _ c.well_formed.1.0.1.1.1.1.0.1.1;
      count = omega (arith, c.requires.1);
      align = search rules;
      cylinders = search rules;
      disk = search rules;
    } in
    let e = all-written c.args.d.now _ _ _ c.args.t c.requires.0
    c.put_front.ensures
    c.put_header.ensures
    c.put_slots.ensures in
    record { d_after = e; passed = (subst Passed (sym e) (passed _ (block_reads c.args.t fits c.requires.1)), ap table_in e ∙ table-back c.args.t fits) }
