use Rattle.std.specs.Prelude.{Err}
use borrow.Author.Rules.{rules}
use Rattle.base.specs.Said.{answered}
use lib.ListN.{length}
use mathlib.Core.List.{[], ◌∷◌, ◌++◌}
use mathlib.Core.Path.{◌≡◌, refl, sym, ap, ◌∙◌}
use Rattle.base.proofs.Checks.{all_hold}
use Rattle.record_mbr.specs.Mbr.{header_checks}
use Rattle.extract.specs.Extract.{extract_checks}
use Rattle.extract.proofs.Good.{good-told, bad-told}
use Rattle.write_rules.specs.Write.{header_store, disk_checks, written_room, header_only_checks}
use Rattle.write_rules.specs.Records.{extract_over}
use Rattle.write_rules.specs.Answers.{header_write_says, header_leaves}
use Rattle.write_rules.proofs.Told.{put-fails, put-skip}
use Rattle.write_table.proofs.write_header.Goals as goal

pub header_good-requires : goal.header_good-requires
header_good-requires c =
    good-told c.args.x.now c.in_ok-check.field-0 (sym (ap answered c.in_ok-check.was) ∙ c.check.ensures.result_value) c.check.ensures.bytes

pub returns-in_err-check : goal.returns-in_err-check
unfolding header_write_says header_leaves header_only_checks
returns-in_err-check c =
    let new = extract_over c.args.x.now (header_store c.args.h ∷ []) in
    let rest = header_checks c.args.h ++ (disk_checks c.args.x.now ++ written_room c.args.x.now (header_store c.args.h ∷ []) (length c.args.out.now)) in
    let h = bad-told c.args.x.now _ (sym (ap answered c.in_err-check.was) ∙ c.check.ensures.result_value) in
    let r : c.from_residual.result ≡ Err c.in_err-check.field-0.0 = search rules in
    let p = put-fails c.from_residual.result c.args.out.now _ new (extract_checks c.args.x.now) rest _ h (ap answered r) refl in
    record { said = p.says; left = p.leaves }

pub returns : goal.returns
unfolding header_write_says header_leaves header_only_checks
returns c =
    let new = extract_over c.args.x.now (header_store c.args.h ∷ []) in
    let rest = header_checks c.args.h ++ (disk_checks c.args.x.now ++ written_room c.args.x.now (header_store c.args.h ∷ []) (length c.args.out.now)) in
    let g = good-told c.args.x.now c.in_ok-check.field-0 (sym (ap answered c.in_ok-check.was) ∙ c.check.ensures.result_value) c.check.ensures.bytes in
    let p = put-skip _ c.args.out.now _ new (extract_checks c.args.x.now) rest (all_hold (extract_checks c.args.x.now) g.0.rules) c.header_good.ensures in
    record { said = p.says; left = p.leaves }
