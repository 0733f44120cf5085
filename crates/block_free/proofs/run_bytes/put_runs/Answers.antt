use mathlib.Core.Path.{◌≡◌, refl, sym, ap, ◌∙◌}
use Prim.Native.Nat.{◌*◌, ◌<◌}
use native.Mathlib.Omega.{arith}
use lib.ListN.{length, take, get_or}
use native.Mathlib.Nat.{zero-add}
use lib.Seq.{length-take-le, get_or-take, take_all}
use Rattle.base.specs.Put.{put}
use Rattle.extract_lay.specs.Plan.{pieces}
use Rattle.extract_lay.proofs.plan.Laws.{pieces_none, pieces_more}
use Rattle.table_free.specs.Free.{run, most_runs}
use Rattle.block_free.specs.Runs.{run_part}
use Rattle.block_free.proofs.run_bytes.Laws.{runs_wide}
use borrow.Author.Rules.{rules}
use Rattle.block_free.proofs.run_bytes.put_runs.Goals as goal

pub loop-i-init : goal.loop-i-init
loop-i-init c = (refl, pieces_none run_part c.args.out.now 0 (take c.args.x.count c.args.x.at))

pub loop-i-preserved : goal.loop-i-preserved
loop-i-preserved c =
    let long : length (take c.args.x.count c.args.x.at) ≡ c.args.x.count =
    let n : length c.args.x.at ≡ most_runs = search rules in
    length-take-le c.args.x.count c.args.x.at (omega (arith, c.requires)) in
    let h : c.loop-i.i < c.args.x.count = omega (arith, long, c.loop-i-test.true) in
    let w = runs_wide (take c.args.x.count c.args.x.at) in
    let e = get_or (take c.args.x.count c.args.x.at) c.loop-i.i (run 0 0) in
    let f = c.put_run.ensures ∙ ap (λ m. put c.loop-i.out m (run_part e)) (sym (zero-add (c.loop-i.i * 8))) in
    (search rules, pieces_more run_part c.args.out.now c.loop-i.out _ 0 8 c.loop-i.i (take c.args.x.count c.args.x.at) (run 0 0) w (omega arith) (omega (arith, c.requires)) c.loop-i.invariant.1 f)

pub returns : goal.returns
returns c =
    let long : length (take c.args.x.count c.args.x.at) ≡ c.args.x.count =
    let n : length c.args.x.at ≡ most_runs = search rules in
    length-take-le c.args.x.count c.args.x.at (omega (arith, c.requires)) in
    c.loop-i.invariant.1 ∙ ap (λ n. put c.args.out.now 0 (pieces run_part n)) (take_all c.loop-i.i (take c.args.x.count c.args.x.at) (omega (arith, long, c.loop-i-test.false)))
