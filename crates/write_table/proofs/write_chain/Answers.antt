use Rattle.std.specs.Prelude.{Err}
use borrow.Author.Rules.{rules}
use Rattle.base.specs.Said.{answered, refusal}
use mathlib.Core.Path.{◌≡◌, refl, sym, ap, ◌∙◌}
use Rattle.base.specs.Checks.{first-fail}
use Rattle.extract.specs.declared.Extract.{Extract}
use Rattle.table.specs.Table.{logicals}
use Rattle.block.specs.Block.{table_in}
use Rattle.table_push.specs.Push.{geometry_of}
use Rattle.write_rules.specs.AsWritten.{logicals_checks}
use Rattle.write_rules.proofs.as_written.Laws.{settle-none}
use Rattle.write_table.proofs.Steps.{chain-put, chain-refused}
use Rattle.write_table.proofs.write_chain.Goals as goal

pub put_table-requires-clause-passed : goal.put_table-requires-clause-passed
put_table-requires-clause-passed c =
    (c.requires.3, c.count-m.ensures, settle-none (table_in c.args.b.now) c.args.e.starting_lba c.args.k.disk_size (sym c.check_logicals.ensures ∙ ap refusal c.in_ok-check_logicals.was))

pub returns-in_err-check_logicals : goal.returns-in_err-check_logicals
returns-in_err-check_logicals c =
    let t = table_in c.args.b.now in
    let g = ap (λ (j : Extract). first-fail (logicals_checks (geometry_of t) c.args.e.starting_lba j.disk_size (logicals t))) (sym c.requires.1) ∙ sym c.check_logicals.ensures ∙ ap refusal c.in_err-check_logicals.was in
    let r : c.from_residual.result ≡ Err c.in_err-check_logicals.field-0.0 = search rules in
    chain-refused _ c.args.out.now _ c.args.x.now t c.args.e c.requires.2 _ g (ap answered r) refl

pub returns : goal.returns
returns c =
    let t = table_in c.args.b.now in
    let g = ap (λ (j : Extract). first-fail (logicals_checks (geometry_of t) c.args.e.starting_lba j.disk_size (logicals t))) (sym c.requires.1) ∙ sym c.check_logicals.ensures ∙ ap refusal c.in_ok-check_logicals.was in
    chain-put _ c.args.out.now _ c.args.x.now t c.args.e c.requires.2 c.args.h _ c.header_record-first.ensures c.requires.4 g c.put_table.ensures
