use mathlib.Core.Path.{refl, sym, ap, ◌∙◌}
use Rattle.std.specs.Prelude.{Ok}
use Rattle.base.specs.Said.{answered, and_then}
use Rattle.table.specs.declared.MBR.{MBR}
use Rattle.table_lookup.specs.Numbers.{get_says}
use Rattle.block.specs.Blocks.{block_says}
use Rattle.block_lookup.proofs.entry_bytes.Laws.{entry-is}
use Rattle.abi_look.proofs.cv_get.Goals as goal

pub returns-in-Err : goal.returns-in-Err
returns-in-Err c =
    let e = sym c.get.ensures ∙ ap answered c.in-Err.is in
    let both = entry-is (and_then (block_says c.args.b.now) (λ (t : MBR). get_says t c.args.number)) _ _ c.args.out.now _ e c.number.ensures refl in
    record { said = both.0; left = both.1 }

pub returns-in-Ok-None : goal.returns-in-Ok-None
returns-in-Ok-None c =
    let e = sym c.get.ensures ∙ ap answered (c.in-Ok-None.is ∙ ap Ok c.in-Ok-None.field-0-is) in
    let both = entry-is (and_then (block_says c.args.b.now) (λ (t : MBR). get_says t c.args.number)) _ _ c.args.out.now _ e refl refl in
    record { said = both.0; left = both.1 }

pub returns-in-Ok-Some : goal.returns-in-Ok-Some
returns-in-Ok-Some c =
    let e = sym c.get.ensures ∙ ap answered (c.in-Ok-Some.is ∙ ap Ok c.in-Ok-Some.field-0-is) in
    let both = entry-is (and_then (block_says c.args.b.now) (λ (t : MBR). get_says t c.args.number)) _ _ c.args.out.now _ e (c.status.ensures ∙ c.put_found.ensures.value) c.put_found.ensures.out_after in
    record { said = both.0; left = both.1 }
