use Rattle.std.proofs.Common.{arith, sym, ap, ◌∙◌, ◌≡◌, [], List, ℕ, ◌≤◌, ◌+◌}
use Rattle.std.proofs.lemmas.Result.{err_from_is_err_and, IfOk-weaker}
use Rattle.base.specs.Said.{Said}
use Rattle.block.specs.Block.{table_in}
use Rattle.block.proofs.Inside.{align-in}
use Rattle.record_mbr.specs.Mbr.{primaries}
use Rattle.table.specs.Table.{logicals}
use Rattle.table.specs.declared.MBR.{MBR}
use Rattle.table_free.specs.declared.Run.{Run}
use Rattle.table_free.specs.declared.Runs.{Runs}
use Rattle.table_free.specs.Free.{runs_in, between, joined, most_runs, positions, primary_zones, logical_zones}
use Rattle.table_free.proofs.Laws.{free-zero, free-outer, free-alone, free-both, first-area, listed-again, listed-none}
use Rattle.block_free.proofs.search.free_of.Goals as goal

abbrev outer-by : (t : MBR) → ℕ → Said (List Run)
outer-by t n = between n (positions 0 t.disk_size (primary_zones (primaries t.header)))

pub returns-then-align-eq0-clause-said : goal.returns-then-align-eq0-clause-said
returns-then-align-eq0-clause-said c =
    (free-zero (table_in c.args.b.now) c.requires.few (align-in c.args.b.now ∙ sym c.get32-align.ensures ∙ c.if-align-eq0.true), tt)

pub returns-in_err-outer-clause-said : goal.returns-in_err-outer-clause-said
returns-in_err-outer-clause-said c =
    let t = table_in c.args.b.now in
    let a : c.get32-align.result ≡ t.align = c.get32-align.ensures ∙ sym (align-in c.args.b.now) in
    let p = err_from_is_err_and c.from_residual.result c.from_residual.ensures.1 in
    rw (p.1, p.2) (free-outer t c.requires.few (omega arith) _ (ap (between t.align) (sym c.in_err-outer.ensures.said)), tt)

pub search_area-requires : goal.search_area-requires
search_area-requires c =
    let n = listed-none _ c.new.ensures in
    (omega arith, (listed-again [] _ c.new.ensures, (omega (arith, c.in_ok-outer.ensures.few), omega (arith, n, c.in_ok-outer.ensures.few))))

pub returns-in_err-runs-clause-said : goal.returns-in_err-runs-clause-said
returns-in_err-runs-clause-said c =
    let t = table_in c.args.b.now in
    let a : c.get32-align.result ≡ t.align = c.get32-align.ensures ∙ sym (align-in c.args.b.now) in
    let p = err_from_is_err_and c.from_residual-in_err-runs.result c.from_residual-in_err-runs.ensures.1 in
    let o = ap (outer-by t) (sym a) ∙ ap (between c.get32-align.result) (sym c.in_ok-outer.ensures.said) ∙ sym (first-area _ _ c.new.ensures) in
    rw (p.1, p.2) (free-outer t c.requires.few (omega arith) _ (o ∙ sym c.in_err-runs.ensures.said.0), tt)

pub returns-in_default-clause-said : goal.returns-in_default-clause-said
returns-in_default-clause-said c =
    let t = table_in c.args.b.now in
    let a : c.get32-align.result ≡ t.align = c.get32-align.ensures ∙ sym (align-in c.args.b.now) in
    let o = ap (outer-by t) (sym a) ∙ ap (between c.get32-align.result) (sym c.in_ok-outer.ensures.said) ∙ sym (first-area _ _ c.new.ensures) in
    let n = sym c.extended.ensures ∙ c.in_default.is in
    (free-alone t c.requires.few (omega arith) _ (o ∙ sym c.in_ok-runs.ensures.said.0) n, c.in_ok-runs.ensures.said.1)

pub returns-in_default-clause-few : goal.returns-in_default-clause-few
returns-in_default-clause-few c =
    let n = listed-none _ c.new.ensures in
    omega (arith, n, c.in_ok-outer.ensures.few, c.in_ok-runs.ensures.few)

pub returns-in_err-inner-clause-said : goal.returns-in_err-inner-clause-said
returns-in_err-inner-clause-said c =
    let t = table_in c.args.b.now in
    let a : c.get32-align.result ≡ t.align = c.get32-align.ensures ∙ sym (align-in c.args.b.now) in
    let p = err_from_is_err_and c.from_residual-in_err-inner.result c.from_residual-in_err-inner.ensures.1 in
    let o = ap (outer-by t) (sym a) ∙ ap (between c.get32-align.result) (sym c.in_ok-outer.ensures.said) ∙ sym (first-area _ _ c.new.ensures) in
    let n = sym c.extended.ensures ∙ c.in-Some.is in
    let b = free-both t c.requires.few (omega arith) _ (o ∙ sym c.in_ok-runs.ensures.said.0) _ n in
    rw (p.1, p.2) (ap (λ (v : Said (List ℕ)). joined (runs_in c.in_ok-runs.runs) (between t.align v)) c.in_err-inner.ensures.said ∙ b, tt)

pub search_area-requires-2 : goal.search_area-requires-2
search_area-requires-2 c =
    let n = listed-none _ c.new.ensures in
    (omega arith, (c.in_ok-runs.ensures.said.1, (c.in_ok-inner.ensures.few, omega (arith, n, c.in_ok-outer.ensures.few, c.in_ok-runs.ensures.few, c.in_ok-inner.ensures.few))))

pub returns-clause-said : goal.returns-clause-said
returns-clause-said c =
    let t = table_in c.args.b.now in
    let a : c.get32-align.result ≡ t.align = c.get32-align.ensures ∙ sym (align-in c.args.b.now) in
    let o = ap (outer-by t) (sym a) ∙ ap (between c.get32-align.result) (sym c.in_ok-outer.ensures.said) ∙ sym (first-area _ _ c.new.ensures) in
    let n = sym c.extended.ensures ∙ c.in-Some.is in
    let e = c.in-Some.e in
    let u = positions e.starting_lba (e.starting_lba + e.sectors) (logical_zones (logicals t)) in
    let b = free-both t c.requires.few (omega arith) _ (o ∙ sym c.in_ok-runs.ensures.said.0) _ n in
    let s = c.search_area-2.ensures.said in
    let rs = runs_in c.in_ok-runs.runs in
    (s.0 ∙ ap (λ (v : Said (List ℕ)). joined rs (between c.get32-align.result v)) c.in_ok-inner.ensures.said ∙ ap (λ (m : ℕ). joined rs (between m u)) a ∙ b, s.1)

pub returns-clause-few : goal.returns-clause-few
returns-clause-few c =
    let n = listed-none _ c.new.ensures in
    IfOk-weaker c.search_area-2.result _ (λ (r : Runs). r.count ≤ most_runs) (λ r h. omega (arith, n, h, c.in_ok-outer.ensures.few, c.in_ok-runs.ensures.few, c.in_ok-inner.ensures.few)) c.search_area-2.ensures.few
