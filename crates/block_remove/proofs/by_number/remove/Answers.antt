use mathlib.Core.Path.{sym, ap, ◌∙◌}
use Prim.Native.Nat.{ℕ}
use native.Mathlib.Omega.{arith}
use Rattle.table_lookup.proofs.Decision.{names, not-logical}
use Rattle.block.proofs.calls.Laws.{passed}
use Rattle.block_slot.specs.Changed.{without_slot}
use Rattle.block_remove.proofs.by_number.Changed.{too_small, too_large, removal-done}
use borrow.Author.Rules.{rules}
use Rattle.block_remove.proofs.by_number.remove.Goals as goal

pub returns-in_default : goal.returns-in_default
returns-in_default c =
    let both = too_small c.args.b.now c.args.number (sym c.in_ok-check.ensures) (not-logical c.args.number _ (sym c.kind_of.ensures) (search rules)) in
    record { said = both.0; left = both.1 }

pub returns-then-n-k : goal.returns-then-n-k
returns-then-n-k c =
    let n = names c.args.number _ (sym c.kind_of.ensures ∙ c.in-Logical.is) in
    let both = too_large c.args.b.now c.args.number (sym c.in_ok-check.ensures) n.1 (omega (arith, n.0, c.if-n-k.true, c.count-n.ensures)) in
    record { said = both.0; left = both.1 }

pub drop_slot-requires : goal.drop_slot-requires
drop_slot-requires c =
    let g = passed c.args.b.now (sym c.in_ok-check.ensures) in
    (g.long, c.if-n-k.false, omega (arith, c.count-n.ensures, g.few))

pub returns : goal.returns
returns c =
    let n = names c.args.number _ (sym c.kind_of.ensures ∙ c.in-Logical.is) in
    let both = removal-done c.args.b.now c.args.number (sym c.in_ok-check.ensures) _ n.1 (omega (arith, n.0, c.if-n-k.false, c.count-n.ensures)) (c.drop_slot.ensures ∙ ap (λ (m : ℕ). without_slot c.args.b.now m c.in-Logical.k) c.count-n.ensures ∙ ap (without_slot c.args.b.now _) n.0) in
    record { said = both.0; left = both.1 }
