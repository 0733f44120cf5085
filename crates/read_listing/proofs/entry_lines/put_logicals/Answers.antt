use native.Mathlib.Nat.{add-zero}
use Rattle.base.proofs.Put.{put-none}
use Rattle.read_listing.proofs.entry_lines.Lines.{lines_more}
use Rattle.read_listing.proofs.text.Text.{then}
use Rattle.read_listing.specs.Lines.{entry_lines}
use Rattle.table.specs.Table.{logicals}
use borrow.Author.Rules.{rules}
use lib.ListN.{length, take}
use lib.Seq.{take-length}
use native.Mathlib.Omega.{arith}
use mathlib.Core.Path.{◌≡◌, refl, sym, ap, ◌∙◌}
use Rattle.read_listing.proofs.entry_lines.put_logicals.Goals as goal

pub loop-i-init : goal.loop-i-init
unfolding entry_lines
loop-i-init c = (refl, search rules, record { place = sym (add-zero c.args.at); bytes = sym (put-none c.args.d.now c.args.at) })

pub loop-i-preserved : goal.loop-i-preserved
loop-i-preserved c =
    let e = lines_more (logicals c.args.t) c.loop-i.i (search rules) in
    let w = then c.args.d.now _ _ c.args.at c.loop-i.end _ _ _ c.loop-i.invariant.2 (omega (arith, c.requires.0, c.requires.1)) c.put_used-end.ensures.0 c.put_used-end.ensures.1 in
    (search rules, omega (arith, c.put_used-end.ensures.2, c.loop-i.invariant.1), rw e w)

pub returns : goal.returns
returns c =
    let z : c.loop-i.i ≡ length (logicals c.args.t) = search rules in
    let w = rw (ap (λ k. take k (logicals c.args.t)) z ∙ take-length (logicals c.args.t)) at c.loop-i.invariant.2 in
    (w.place, w.bytes)
