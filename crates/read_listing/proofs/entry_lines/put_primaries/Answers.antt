use Rattle.read_listing.proofs.entry_lines.Lines.{lines-four}
use Rattle.read_listing.proofs.text.Text.{Written, then}
use Rattle.read_listing.specs.Lines.{used_line}
use native.Mathlib.Omega.{arith}
use mathlib.Core.List.{◌++◌}
use Rattle.read_listing.proofs.entry_lines.put_primaries.Goals as goal

pub put_used-at-requires-2 : goal.put_used-at-requires-2
put_used-at-requires-2 c =
    omega (arith, c.requires)

pub put_used-at-requires-3 : goal.put_used-at-requires-3
put_used-at-requires-3 c =
    omega (arith, c.requires)

pub put_used-requires : goal.put_used-requires
put_used-requires c =
    omega (arith, c.requires)

pub returns : goal.returns
returns c =
    let l₁ = used_line 1 c.args.h.partition_1 in
    let l₂ = used_line 2 c.args.h.partition_2 in
    let l₃ = used_line 3 c.args.h.partition_3 in
    let l₄ = used_line 4 c.args.h.partition_4 in
    let w₁ : Written c.args.d.now _ c.args.at _ l₁ = record { place = c.put_used-at.ensures.0; bytes = c.put_used-at.ensures.1 } in
    let w₂ = then c.args.d.now _ _ c.args.at _ _ l₁ l₂ w₁ (omega (arith, c.requires, c.put_used-at.ensures.2)) c.put_used-at-2.ensures.0 c.put_used-at-2.ensures.1 in
    let w₃ = then c.args.d.now _ _ c.args.at _ _ (l₁ ++ l₂) l₃ w₂ (omega (arith, c.requires, c.put_used-at.ensures.2, c.put_used-at-2.ensures.2)) c.put_used-at-3.ensures.0 c.put_used-at-3.ensures.1 in
    let w₄ = then c.args.d.now _ _ c.args.at _ _ (l₁ ++ l₂ ++ l₃) l₄ w₃ (omega (arith, c.requires, c.put_used-at.ensures.2, c.put_used-at-2.ensures.2, c.put_used-at-3.ensures.2)) c.put_used.ensures.0 c.put_used.ensures.1 in
    (rw (lines-four c.args.h) w₄.place, rw (lines-four c.args.h) w₄.bytes, omega (arith, c.put_used-at.ensures.2, c.put_used-at-2.ensures.2, c.put_used-at-3.ensures.2, c.put_used.ensures.2))
