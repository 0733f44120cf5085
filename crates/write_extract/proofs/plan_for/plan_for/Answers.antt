use lib.ListN.{length}
use mathlib.Core.Path.{◌≡◌, refl, sym, ap, ◌∙◌}
use native.Mathlib.Omega.{arith}
use Rattle.extract.proofs.Good.{good-few, good-long}
use Rattle.extract_lay.specs.Plan.{planned, plan_of}
use Rattle.extract_lay.proofs.plan.Laws.{planned-of, plan-again}
use Rattle.block.specs.Block.{table_in}
use Rattle.write_rules.specs.AsWritten.{as_written_in}
use Rattle.write_rules.proofs.as_written.Laws.{held-long, settled-long}
use Rattle.write_rules.specs.Sources.{ebr_source}
use Rattle.write_rules.proofs.sources.Laws.{slots_end, plan-start, plan-turn}
use Rattle.write_extract.proofs.plan_for.plan_for.Goals as goal

pub old-plan-requires : goal.old-plan-requires
old-plan-requires c =
    (omega (arith, good-few c.args.x.now c.requires.1, c.requires.0), omega (arith, good-long c.args.x.now c.requires.1, c.requires.0))

pub lay-requires : goal.lay-requires
lay-requires c = omega (arith, good-few c.args.x.now c.requires.1, c.requires.0, c.old-plan.ensures.1)

pub loop-i-init : goal.loop-i-init
loop-i-init c =
    let k = good-few c.args.x.now c.requires.1 in
    record {
      room = omega (arith, c.lay.ensures.long, c.old-plan.ensures.1, c.requires.0);
      laid = plan-start c.args.x.now (as_written_in (table_in c.args.b.now) c.args.first_at) c.args.n _ _ c.requires.0 (planned-of c.old-plan.result _ c.old-plan.ensures.0) c.lay.ensures.laid;
      unused = plan-again c.lay.new.plan _ (c.lay.ensures.unused (plan-again c.old-plan.result _ c.old-plan.ensures.0));
    }

pub ebr_place-lba-requires : goal.ebr_place-lba-requires
ebr_place-lba-requires c =
    (c.requires.2, omega (arith, c.loop-i-test.true, c.requires.3))

pub lay-requires-in-loop-i : goal.lay-requires-in-loop-i
lay-requires-in-loop-i c = omega (arith, c.loop-i.invariant.room, c.loop-i-test.true, c.requires.3, c.requires.2.few)

pub loop-i-preserved : goal.loop-i-preserved
loop-i-preserved c =
    let long : length (as_written_in (table_in c.args.b.now) c.args.first_at) ≡ c.args.m =
    settled-long (table_in c.args.b.now) c.args.first_at (held-long c.args.b.now c.requires.2) ∙ sym c.requires.3 in
    let ls = as_written_in (table_in c.args.b.now) c.args.first_at in
    record {
      room = omega (arith, c.lay-in-loop-i.ensures.long, c.loop-i.invariant.room);
      laid = c.loop-i.invariant.laid ∙ plan-turn ls c.loop-i.i _ _ _ _ (omega (arith, long, c.loop-i-test.true)) (sym c.ebr_place-lba.ensures) refl c.lay-in-loop-i.ensures.laid;
      unused = plan-again c.lay-in-loop-i.new.plan _ (c.lay-in-loop-i.ensures.unused c.loop-i.invariant.unused);
    }

pub returns : goal.returns
returns c =
    let long : length (as_written_in (table_in c.args.b.now) c.args.first_at) ≡ c.args.m =
    settled-long (table_in c.args.b.now) c.args.first_at (held-long c.args.b.now c.requires.2) ∙ sym c.requires.3 in
    let i : c.loop-i.i ≡ c.args.m = omega (arith, c.loop-i-test.false) in
    let ls = as_written_in (table_in c.args.b.now) c.args.first_at in
    (c.loop-i.invariant.unused ∙ ap plan_of (sym (c.loop-i.invariant.laid ∙ slots_end ebr_source c.loop-i.i ls (planned c.loop-i.plan) (i ∙ sym long))), omega (arith, c.loop-i.invariant.room, i, c.requires.3, c.requires.2.few))
