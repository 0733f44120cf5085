use Rattle.read_listing.proofs.text.Text.{ten, Written, then}
use Rattle.read_listing.specs.Lines.{entry_line}
use Rattle.read_listing.specs.Text.{decimal, hex, spaced, newline}
use native.Mathlib.Omega.{arith}
use mathlib.Core.List.{◌++◌}
use mathlib.Core.Path.{refl}
use borrow.Author.Rules.{rules}
use Rattle.read_listing.proofs.entry_lines.put_entry.Goals as goal

pub returns : goal.returns
unfolding entry_line
returns c =
    let n = ten c.args.n (search rules) in
    let start = ten c.args.e.starting_lba (search rules) in
    let sectors = ten c.args.e.sectors (search rules) in
    let x₁ = decimal c.args.n in
    let w₁ : Written c.args.d.now _ c.args.at _ x₁ = record { place = c.put_number-sys.ensures.0; bytes = c.put_number-sys.ensures.1 } in
    let y₂ = spaced (hex c.args.e.sys) in
    let x₂ = x₁ ++ y₂ in
    let w₂ = then c.args.d.now _ _ c.args.at _ _ x₁ y₂ w₁ (omega (arith, c.requires)) c.put_hex-boot.ensures.0 c.put_hex-boot.ensures.1 in
    let y₃ = spaced (hex c.args.e.boot) in
    let x₃ = x₂ ++ y₃ in
    let w₃ = then c.args.d.now _ _ c.args.at _ _ x₂ y₃ w₂ (omega (arith, c.requires)) c.put_hex-start.ensures.0 c.put_hex-start.ensures.1 in
    let y₄ = spaced (decimal c.args.e.starting_lba) in
    let x₄ = x₃ ++ y₄ in
    let w₄ = then c.args.d.now _ _ c.args.at _ _ x₃ y₄ w₃ (omega (arith, c.requires)) c.put_spaced-sectors.ensures.0 c.put_spaced-sectors.ensures.1 in
    let y₅ = spaced (decimal c.args.e.sectors) in
    let x₅ = x₄ ++ y₅ in
    let w₅ = then c.args.d.now _ _ c.args.at _ _ x₄ y₅ w₄ (omega (arith, c.requires)) c.put_spaced-end.ensures.0 c.put_spaced-end.ensures.1 in
    let z = then c.args.d.now _ _ c.args.at _ _ x₅ newline w₅ (omega (arith, c.requires)) refl c.put8.ensures in
    (z.place, z.bytes, omega arith)
