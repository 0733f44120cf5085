use Rattle.read_listing.proofs.text.Text.{Written, then}
use Rattle.read_listing.specs.Words.{first_line}
use Rattle.read_listing.specs.Lines.{entry_lines}
use Rattle.read_listing.specs.Listing.{table_text}
use Rattle.table.specs.Table.{logicals, parts}
use Rattle.record_mbr.specs.Mbr.{primaries}
use native.Mathlib.Omega.{arith}
use mathlib.Core.List.{◌++◌}
use mathlib.Core.Path.{◌∙◌}
use Rattle.read_listing.proofs.put_table.Goals as goal

pub returns : goal.returns
unfolding table_text
returns c =
    let x₁ = first_line c.args.t.disk_size c.args.t.align c.args.t.count in
    let x₂ = entry_lines 1 (primaries c.args.t.header) in
    let x₃ = entry_lines 5 (parts (logicals c.args.t)) in
    let w₁ : Written c.args.d.now _ 0 _ x₁ = record { place = c.put_first-at.ensures.0 ∙ omega arith; bytes = c.put_first-at.ensures.1 } in
    let w₂ = then c.args.d.now _ _ 0 _ _ x₁ x₂ w₁ (omega (arith, c.requires.1, c.put_first-at.ensures.2)) c.put_primaries-at.ensures.0 c.put_primaries-at.ensures.1 in
    let w₃ = then c.args.d.now _ _ 0 _ _ (x₁ ++ x₂) x₃ w₂ (omega (arith, c.requires.1, c.put_first-at.ensures.2, c.put_primaries-at.ensures.2)) c.put_logicals.ensures.0 c.put_logicals.ensures.1 in
    (w₃.place ∙ omega arith, w₃.bytes)
