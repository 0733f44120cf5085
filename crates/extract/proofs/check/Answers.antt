use mathlib.Core.Path.{◌≡◌, sym, ap, ◌∙◌}
use native.Mathlib.Omega.{arith}
use Rattle.std.specs.Prelude.{Err}
use borrow.Author.Rules.{rules}
use Rattle.base.specs.Said.{answered, refusal}
use Rattle.base.specs.Checks.{first-fail}
use Rattle.base.specs.Bytes.{Bytes}
use Rattle.base.proofs.Bytes.{bytes-all}
use Rattle.extract.proofs.Good.{of_header, of_lbas, says-short, says-header, says-lbas, says-good, header-words, header-room}
use Rattle.extract.proofs.check.Goals as goal

pub returns-then-long-lt24 : goal.returns-then-long-lt24
returns-then-long-lt24 c =
    let are-bytes : Bytes c.args.x.now =
    bytes-all c.args.x.now (λ i. (c.type_inv.x i).fits) in
    record { result_value = says-short _ c.if-long-lt24.true; bytes = are-bytes }

pub lba_rules-requires : goal.lba_rules-requires
lba_rules-requires c =
    let header-said : refusal c.header_rules.result ≡ first-fail (of_header c.args.x.now) =
    c.header_rules.ensures
    ∙ header-words
    c.args.x.now
    _
    _
    _
    _
    _
    c.word_at-size.ensures
    c.word_at-n.ensures
    c.word_at-list.ensures
    c.word_at-records.ensures
    c.word_at-total.ensures in
    let h = sym header-said ∙ ap refusal c.in_ok-header_rules.was in
    let r = header-room _ h in
    (omega arith, omega arith)

pub returns-in_err-header_rules : goal.returns-in_err-header_rules
returns-in_err-header_rules c =
    let p : c.from_residual.result ≡ Err c.in_err-header_rules.field-0.0 = search rules in
    let are-bytes : Bytes c.args.x.now =
    bytes-all c.args.x.now (λ i. (c.type_inv.x i).fits) in
    let header-said : refusal c.header_rules.result ≡ first-fail (of_header c.args.x.now) =
    c.header_rules.ensures
    ∙ header-words
    c.args.x.now
    _
    _
    _
    _
    _
    c.word_at-size.ensures
    c.word_at-n.ensures
    c.word_at-list.ensures
    c.word_at-records.ensures
    c.word_at-total.ensures in
    record { result_value = ap answered p ∙ says-header _ _ c.if-long-lt24.false (sym header-said ∙ ap refusal c.in_err-header_rules.was); bytes = are-bytes }

pub returns-in_err-lba_rules : goal.returns-in_err-lba_rules
returns-in_err-lba_rules c =
    let p : c.from_residual-in_err-lba_rules.result ≡ Err c.in_err-lba_rules.field-0.0 = search rules in
    let are-bytes : Bytes c.args.x.now =
    bytes-all c.args.x.now (λ i. (c.type_inv.x i).fits) in
    let header-said : refusal c.header_rules.result ≡ first-fail (of_header c.args.x.now) =
    c.header_rules.ensures
    ∙ header-words
    c.args.x.now
    _
    _
    _
    _
    _
    c.word_at-size.ensures
    c.word_at-n.ensures
    c.word_at-list.ensures
    c.word_at-records.ensures
    c.word_at-total.ensures in
    let lbas-said : refusal c.lba_rules.result ≡ first-fail (of_lbas c.args.x.now) =
    c.lba_rules.ensures ∙ rw (c.word_at-disk.ensures, c.word_at-n.ensures) in
    let h = sym header-said ∙ ap refusal c.in_ok-header_rules.was in
    record { result_value = ap answered p ∙ says-lbas _ _ c.if-long-lt24.false h (sym lbas-said ∙ ap refusal c.in_err-lba_rules.was); bytes = are-bytes }

pub returns : goal.returns
returns c =
    let are-bytes : Bytes c.args.x.now =
    bytes-all c.args.x.now (λ i. (c.type_inv.x i).fits) in
    let header-said : refusal c.header_rules.result ≡ first-fail (of_header c.args.x.now) =
    c.header_rules.ensures
    ∙ header-words
    c.args.x.now
    _
    _
    _
    _
    _
    c.word_at-size.ensures
    c.word_at-n.ensures
    c.word_at-list.ensures
    c.word_at-records.ensures
    c.word_at-total.ensures in
    let lbas-said : refusal c.lba_rules.result ≡ first-fail (of_lbas c.args.x.now) =
    c.lba_rules.ensures ∙ rw (c.word_at-disk.ensures, c.word_at-n.ensures) in
    let h = sym header-said ∙ ap refusal c.in_ok-header_rules.was in
    let l = sym lbas-said ∙ ap refusal c.in_ok-lba_rules.was in
    record { result_value = rw (c.word_at-size.ensures, c.word_at-disk.ensures, c.word_at-n.ensures) (says-good _ c.if-long-lt24.false h l); bytes = are-bytes }
