use mathlib.Core.Path.{sym, ap, ◌∙◌}
use Rattle.record_mbr.specs.declared.MBRHeader.{MBRHeader}
use Rattle.record_mbr.specs.Mbr.{primaries, extended_of}
use Rattle.block.specs.Block.{table_in}
use Rattle.write_table.proofs.Steps.{plain-put}
use Rattle.write_table.proofs.write_on.Goals as goal

pub returns-in-None : goal.returns-in-None
returns-in-None c =
    let n = ap (λ (h : MBRHeader). extended_of (primaries h)) (sym c.requires.3) ∙ sym c.get_extended_partition.ensures ∙ c.in-None.is in
    plain-put _ c.args.out.now _ c.args.x.now (table_in c.args.b.now) c.args.h c.requires.3 n c.lay_header.ensures
