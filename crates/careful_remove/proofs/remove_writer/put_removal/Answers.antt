use mathlib.Core.Path.{◌≡◌, sym, ap, ◌∙◌}
use native.Mathlib.Omega.{arith}
use Prim.Native.Nat.{◌-◌}
use lib.ListN.{length}
use lib.Seq.{length-take-le, get_or-take}
use Rattle.table.specs.Table.{logicals, no_logical, most}
use Rattle.careful_stores.specs.Stored.{moved}
use Rattle.careful_remove.proofs.remove_writer.Lists.{only-removed, first-removed, later-removed}
use borrow.Author.Rules.{rules}
use Rattle.careful_remove.proofs.remove_writer.put_removal.Goals as goal

pub returns-then-t-eq1 : goal.returns-then-t-eq1
returns-then-t-eq1 c =
    let m : length c.args.t.logical_partitions ≡ most = search rules in
    let n : length (logicals c.args.t) ≡ c.args.t.count = length-take-le c.args.t.count c.args.t.logical_partitions (omega (arith, m, c.requires.1)) in
    only-removed c.args.out.now _ c.args.e (logicals c.args.t) c.args.i (n ∙ c.if-t-eq1.true) (omega (arith, n, c.requires.0)) c.put_wipe.ensures

pub returns-then-i-eq0 : goal.returns-then-i-eq0
returns-then-i-eq0 c =
    let m : length c.args.t.logical_partitions ≡ most = search rules in
    let n : length (logicals c.args.t) ≡ c.args.t.count = length-take-le c.args.t.count c.args.t.logical_partitions (omega (arith, m, c.requires.1)) in
    let g = get_or-take c.args.t.count c.args.t.logical_partitions 1 no_logical (omega (arith, c.requires.0, c.if-t-eq1.false, c.if-i-eq0.true)) in
    first-removed c.args.out.now _ c.args.e (logicals c.args.t) c.args.i _ _ c.put_ebr.ensures.0 c.if-i-eq0.true (omega (arith, n, c.requires.0, c.if-t-eq1.false, c.if-i-eq0.true)) (c.move_first.ensures ∙ ap (moved c.args.e) (sym g)) c.link_at.ensures

pub returns-else-i-eq0 : goal.returns-else-i-eq0
returns-else-i-eq0 c =
    let m : length c.args.t.logical_partitions ≡ most = search rules in
    let n : length (logicals c.args.t) ≡ c.args.t.count = length-take-le c.args.t.count c.args.t.logical_partitions (omega (arith, m, c.requires.1)) in
    let g = get_or-take c.args.t.count c.args.t.logical_partitions (c.args.i - 1) no_logical (omega (arith, c.requires.0)) in
    later-removed c.args.out.now _ c.args.e (logicals c.args.t) c.args.i _ _ c.put_ebr-else-i-eq0.ensures.0 c.if-i-eq0.false (omega (arith, n, c.requires.0)) (sym g) c.link_at-else-i-eq0.ensures
