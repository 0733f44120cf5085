use Rattle.std.specs.Prelude.{Err}
use borrow.Author.Rules.{rules}
use Rattle.base.specs.Said.{answered}
use lib.ListN.{length}
use mathlib.Core.Path.{◌≡◌, refl, sym, ap, ◌∙◌}
use Rattle.base.proofs.Checks.{all_hold}
use Rattle.extract.specs.Extract.{extract_checks}
use Rattle.extract.proofs.Good.{good-told, bad-told}
use Rattle.block.specs.Block.{table_in}
use Rattle.write_rules.specs.Records.{extract_over}
use Rattle.write_rules.specs.Write.{table_stores, header_refusals}
use Rattle.write_rules.proofs.Told.{put-fails, put-skip}
use Rattle.write_rules.proofs.Said.{into-rest}
use Rattle.write_table.proofs.write_over.Goals as goal

pub write_good-requires : goal.write_good-requires
write_good-requires c =
    let g = good-told c.args.x.now c.in_ok-check.field-0 (sym (ap answered c.in_ok-check.was) ∙ c.check.ensures.result_value) c.check.ensures.bytes in
    (g.0, g.1, c.requires)

pub returns-in_err-check : goal.returns-in_err-check
returns-in_err-check c =
    let t = table_in c.args.b.now in
    let r : c.from_residual.result ≡ Err c.in_err-check.field-0.0 = search rules in
    let h = bad-told c.args.x.now _ (sym (ap answered c.in_err-check.was) ∙ c.check.ensures.result_value) in
    let both = into-rest _ c.args.out.now _ c.args.x.now t c.requires.few (put-fails _ c.args.out.now _ (extract_over c.args.x.now (table_stores t)) (extract_checks c.args.x.now) (header_refusals t c.args.x.now (length c.args.out.now)) _ h (ap answered r) refl) in
    record { result_value = both.0; out_after = both.1 }

pub returns : goal.returns
returns c =
    let t = table_in c.args.b.now in
    let g = good-told c.args.x.now c.in_ok-check.field-0 (sym (ap answered c.in_ok-check.was) ∙ c.check.ensures.result_value) c.check.ensures.bytes in
    let both = into-rest _ c.args.out.now _ c.args.x.now t c.requires.few (put-skip _ c.args.out.now _ (extract_over c.args.x.now (table_stores t)) (extract_checks c.args.x.now) (header_refusals t c.args.x.now (length c.args.out.now)) (all_hold (extract_checks c.args.x.now) g.0.rules) c.write_good.ensures) in
    record { result_value = both.0; out_after = both.1 }
