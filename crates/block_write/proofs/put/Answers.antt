use borrow.Author.Tests.{eq-eqb, ne_eqb, lt-leb, le-leb}
use mathlib.Core.Path.{◌∙◌}
use Rattle.block_write.proofs.put.Goals as goal

pub returns-then-t-gt-LOGICALS : goal.returns-then-t-gt-LOGICALS
returns-then-t-gt-LOGICALS c = let l = lt-leb _ _ c.if-t-gt-LOGICALS.true in
    record { result_value = rw l; out_after = rw l }

pub returns-then-out-ne-BLOCK : goal.returns-then-out-ne-BLOCK
returns-then-out-ne-BLOCK c = let l = le-leb _ _ c.if-t-gt-LOGICALS.false in
    let e = ne_eqb _ _ c.if-out-ne-BLOCK.true in
    record { result_value = rw (l, e); out_after = rw (l, e) }

pub returns : goal.returns
returns c = let l = le-leb _ _ c.if-t-gt-LOGICALS.false in
    let e = eq-eqb _ _ c.if-out-ne-BLOCK.false in
    record { result_value = rw (l, e); out_after = c.put_all.ensures.d_after ∙ rw (l, e) }
