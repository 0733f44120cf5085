use mathlib.Core.List.{[], ◌∷◌}
use mathlib.Core.Path.{◌∙◌}
use native.Mathlib.Omega.{arith}
use Rattle.write_rules.proofs.sources.Laws.{old-source, first-source, put-old, put_first}
use Rattle.write_records.proofs.one_record.put_kept.Goals as goal

pub overflow_mul-from : goal.overflow_mul-from
overflow_mul-from c =
    let o = old-source c.args.x.now c.args.n 0 c.args.source c.args.first.now c.requires.0 c.requires.1 c.if-source-lt-MBR_SOURCE.true in
    omega arith

pub overflow_add-from : goal.overflow_add-from
overflow_add-from c =
    let o = old-source c.args.x.now c.args.n 0 c.args.source c.args.first.now c.requires.0 c.requires.1 c.if-source-lt-MBR_SOURCE.true in
    omega arith

pub overflow_add-from-then-source-lt-MBR_SOURCE : goal.overflow_add-from-then-source-lt-MBR_SOURCE
overflow_add-from-then-source-lt-MBR_SOURCE c =
    let o = old-source c.args.x.now c.args.n 0 c.args.source c.args.first.now c.requires.0 c.requires.1 c.if-source-lt-MBR_SOURCE.true in
    omega arith

pub overflow_add-from-then-source-lt-MBR_SOURCE-2 : goal.overflow_add-from-then-source-lt-MBR_SOURCE-2
overflow_add-from-then-source-lt-MBR_SOURCE-2 c =
    let o = old-source c.args.x.now c.args.n 0 c.args.source c.args.first.now c.requires.0 c.requires.1 c.if-source-lt-MBR_SOURCE.true in
    omega arith

pub slice_bounds-copy_in-end : goal.slice_bounds-copy_in-end
slice_bounds-copy_in-end c =
    let o = old-source c.args.x.now c.args.n 0 c.args.source c.args.first.now c.requires.0 c.requires.1 c.if-source-lt-MBR_SOURCE.true in
    omega arith

pub returns-then-source-lt-MBR_SOURCE : goal.returns-then-source-lt-MBR_SOURCE
returns-then-source-lt-MBR_SOURCE c =
    c.copy_in.ensures ∙ put-old c.args.x.now c.args.out.now (record { lba = 0; bytes = c.args.first.now } ∷ []) c.args.at c.args.n c.args.source c.requires.0.number c.if-source-lt-MBR_SOURCE.true

pub returns : goal.returns
returns c =
    c.copy_in-2.ensures ∙ put_first c.args.x.now c.args.out.now c.args.first.now [] c.args.at c.args.source (first-source c.args.x.now c.args.n c.args.source c.args.first.now c.requires.0 c.requires.1 c.if-source-lt-MBR_SOURCE.false)
