use Rattle.record_mbr.specs.Mbr.{code_of}
use Rattle.base.proofs.Put.{put_front}
use borrow.Author.Rules.{rules}
use Rattle.record_mbr.proofs.fields_read.code_of.Goals as goal

pub returns : goal.returns
unfolding code_of
returns c =
    put_front _ _ c.args.r.now 440 (search rules) (search rules) c.copy_in.ensures
