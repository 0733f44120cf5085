use mathlib.Core.Path.{◌≡◌, sym, ◌∙◌}
use native.Mathlib.Omega.{arith}
use mathlib.Core.Bool.{true}
use Rattle.std.specs.Prelude.{None}
use Rattle.base.specs.Checks.{first-fail}
use lib.ListN.{length}
use lib.Seq.{length-take-le}
use Rattle.table.specs.Table.{logicals, most}
use Rattle.sound.specs.Sound.{contents_of, soundb}
use Rattle.careful.specs.Careful.{ask_checks, push_refusals, push_change}
use Rattle.careful_push.proofs.Laws.{ask_holds, push-told}
use borrow.Author.Rules.{rules}
use Rattle.careful_push.proofs.push_on.Goals as goal

pub returns : goal.returns
returns c =
    let t = contents_of c.args.t in
    let cs = push_refusals (length c.args.out.now) c.args.q t in
    let ss = (push_change c.args.q t).stores in
    let s : soundb t ≡ true = sym c.is_sound.ensures ∙ c.if-not-is_sound.false in
    let k : first-fail (ask_checks c.args.q) ≡ None = ask_holds c.args.q (sym c.is_askable.ensures ∙ c.if-not-is_askable.false) in
    let x = sym c.get_extended_partition.ensures ∙ c.in-Some.is in
    let m : length c.args.t.logical_partitions ≡ most = search rules in
    let n : length (logicals c.args.t) ≡ c.args.t.count = length-take-le c.args.t.count c.args.t.logical_partitions (omega (arith, m, c.requires)) in
    push-told (length c.args.out.now) c.args.q t s k c.in-Some.e c.args.t.count x n c.push_among.result c.args.out.now _ c.push_among.ensures
