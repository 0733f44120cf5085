use Rattle.std.proofs.Common.{arith, ℕ, sym, ap, ◌∙◌, ◌+◌, List, ◌<◌, ◌≤◌, length}
use Rattle.std.proofs.lemmas.Result.{err_from_is_err_and}
use Rattle.base.specs.Said.{Said, gives}
use Rattle.block.specs.Block.{table_in}
use Rattle.table.specs.Table.{logicals}
use Rattle.table_free.specs.Free.{logical_zones, points_in, closed}
use Rattle.table_free.proofs.Laws.{logical-on, logical-end, positions-steps}
use Rattle.block_free.proofs.search.Laws.{logicals-all, slot-more}
use Rattle.block_free.proofs.search.extended_points.Goals as goal

pub returns-in_err-add-clause-said : goal.returns-in_err-add-clause-said
returns-in_err-add-clause-said c =
    let p = err_from_is_err_and c.from_residual.result c.from_residual.ensures.1 in
    let t = table_in c.args.b.now in
    let to = c.args.e.starting_lba + c.args.e.sectors in
    let h : c.loop-i.i < t.count = omega (arith, c.loop-i-test.true, c.count-n.ensures) in
    let l : c.loop-i.i < length (logicals t) = omega (arith, h, logicals-all c.args.b.now c.requires.few) in
    let v = gives (points_in c.loop-i.p) in
    let on = logical-on (logicals t) c.loop-i.i l v _ (slot-more t c.loop-i.i h v _ _ _ c.ebr_lba-place.ensures c.logical-l.ensures c.in_err-add.ensures.said) in
    rw (p.1, p.2) (sym (ap (λ (v : Said (List ℕ)). closed v to) (c.loop-i.invariant.said ∙ on)) ∙ positions-steps c.args.e.starting_lba to (logical_zones (logicals t)))

pub loop-i-preserved : goal.loop-i-preserved
loop-i-preserved c =
    let t = table_in c.args.b.now in
    let h : c.loop-i.i < t.count = omega (arith, c.loop-i-test.true, c.count-n.ensures) in
    let l : c.loop-i.i < length (logicals t) = omega (arith, h, logicals-all c.args.b.now c.requires.few) in
    let v = gives (points_in c.loop-i.p) in
    record {
      few = omega (arith, c.loop-i.invariant.few, c.in_ok-add.ensures.few);
      said = c.loop-i.invariant.said
          ∙ logical-on (logicals t) c.loop-i.i l v _ (slot-more t c.loop-i.i h v _ _ _ c.ebr_lba-place.ensures c.logical-l.ensures c.in_ok-add.ensures.said);
    }

pub returns-clause-said : goal.returns-clause-said
returns-clause-said c =
    let t = table_in c.args.b.now in
    let to = c.args.e.starting_lba + c.args.e.sectors in
    let l : length (logicals t) ≤ c.loop-i.i = omega (arith, c.loop-i-test.false, c.count-n.ensures, logicals-all c.args.b.now c.requires.few) in
    let e = c.loop-i.invariant.said ∙ logical-end (logicals t) c.loop-i.i l (gives (points_in c.loop-i.p)) in
    c.to.ensures.said ∙ ap (closed (gives (points_in c.loop-i.p))) (omega arith) ∙ ap (λ (v : Said (List ℕ)). closed v to) (sym e)
    ∙ positions-steps c.args.e.starting_lba to (logical_zones (logicals t))
