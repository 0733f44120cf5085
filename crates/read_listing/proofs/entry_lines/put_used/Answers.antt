use borrow.Author.Tests.{eq-eqb, ne_eqb}
use native.Mathlib.Nat.{add-zero}
use mathlib.Core.Path.{sym}
use borrow.Author.Rules.{rules}
use Rattle.base.proofs.Put.{put-none}
use Rattle.read_listing.proofs.entry_lines.put_used.Goals as goal

pub returns-then-e-eq0 : goal.returns-then-e-eq0
returns-then-e-eq0 c =
    let e = eq-eqb _ _ c.if-e-eq0.true in
    (rw e (sym (add-zero c.args.at)), rw e (sym (put-none c.args.d.now c.args.at)), search rules)

pub returns : goal.returns
returns c =
    let e = ne_eqb _ _ c.if-e-eq0.false in
    (rw e c.put_entry.ensures.0, rw e c.put_entry.ensures.1, c.put_entry.ensures.2)
