use mathlib.Core.Path.{ap, ◌∙◌}
use Rattle.base.specs.Put.{put}
use Rattle.record_ebr.specs.declared.EBRHeader.{EBRHeader}
use Rattle.record_ebr.specs.Ebr.{no_mark, ebr_bytes}
use Rattle.write_records.proofs.one_record.put_ebr.Goals as goal

pub returns : goal.returns
returns c =
    c.write_at.ensures ∙ ap (λ (h : EBRHeader). put c.args.out.now c.args.at (ebr_bytes no_mark h)) c.ebr_with-h.ensures
