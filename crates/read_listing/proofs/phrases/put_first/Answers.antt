use Rattle.read_listing.proofs.text.Text.{ten, Written, then}
use Rattle.read_listing.specs.Words.{first_line, disk_word, align_word, logical_word}
use Rattle.read_listing.specs.Text.{decimal, newline}
use native.Mathlib.Omega.{arith}
use mathlib.Core.List.{◌++◌}
use mathlib.Core.Path.{refl, ◌∙◌}
use borrow.Author.Rules.{rules}
use Rattle.read_listing.proofs.phrases.put_first.Goals as goal

pub put_number-at-requires : goal.put_number-at-requires
put_number-at-requires c =
    let t-disk = ten c.args.disk (search rules) in
    let t-align = ten c.args.align (search rules) in
    let t-count = ten c.args.count (search rules) in
    omega (arith, c.requires)

pub copy_in-requires-2 : goal.copy_in-requires-2
copy_in-requires-2 c =
    let t-disk = ten c.args.disk (search rules) in
    let t-align = ten c.args.align (search rules) in
    let t-count = ten c.args.count (search rules) in
    omega (arith, c.requires)

pub overflow_add-at : goal.overflow_add-at
overflow_add-at c =
    let t-disk = ten c.args.disk (search rules) in
    let t-align = ten c.args.align (search rules) in
    let t-count = ten c.args.count (search rules) in
    omega (arith, c.requires)

pub put_number-at-requires-2 : goal.put_number-at-requires-2
put_number-at-requires-2 c =
    let t-disk = ten c.args.disk (search rules) in
    let t-align = ten c.args.align (search rules) in
    let t-count = ten c.args.count (search rules) in
    omega (arith, c.requires)

pub copy_in-requires-3 : goal.copy_in-requires-3
copy_in-requires-3 c =
    let t-disk = ten c.args.disk (search rules) in
    let t-align = ten c.args.align (search rules) in
    let t-count = ten c.args.count (search rules) in
    omega (arith, c.requires)

pub overflow_add-at-2 : goal.overflow_add-at-2
overflow_add-at-2 c =
    let t-disk = ten c.args.disk (search rules) in
    let t-align = ten c.args.align (search rules) in
    let t-count = ten c.args.count (search rules) in
    omega (arith, c.requires)

pub put_number-at-requires-3 : goal.put_number-at-requires-3
put_number-at-requires-3 c =
    let t-disk = ten c.args.disk (search rules) in
    let t-align = ten c.args.align (search rules) in
    let t-count = ten c.args.count (search rules) in
    omega (arith, c.requires)

pub put8-requires : goal.put8-requires
put8-requires c =
    let t-disk = ten c.args.disk (search rules) in
    let t-align = ten c.args.align (search rules) in
    let t-count = ten c.args.count (search rules) in
    omega (arith, c.requires)

pub overflow_add-result : goal.overflow_add-result
overflow_add-result c =
    let t-disk = ten c.args.disk (search rules) in
    let t-align = ten c.args.align (search rules) in
    let t-count = ten c.args.count (search rules) in
    omega (arith, c.requires)

pub returns : goal.returns
unfolding first_line
returns c =
    let t-disk = ten c.args.disk (search rules) in
    let t-align = ten c.args.align (search rules) in
    let t-count = ten c.args.count (search rules) in
    let w₁ : Written c.args.d.now _ 0 5 disk_word = record { place = refl; bytes = c.copy_in.ensures } in
    let x₁ = disk_word in
    let x₂ = x₁ ++ (decimal c.args.disk) in
    let w₂ = then c.args.d.now _ _ 0 _ _ x₁ (decimal c.args.disk) w₁ (omega (arith, c.requires)) c.put_number-at.ensures.0 c.put_number-at.ensures.1 in
    let x₃ = x₂ ++ align_word in
    let w₃ = then c.args.d.now _ _ 0 _ _ x₂ (align_word) w₂ (omega (arith, c.requires)) refl c.copy_in-2.ensures in
    let x₄ = x₃ ++ (decimal c.args.align) in
    let w₄ = then c.args.d.now _ _ 0 _ _ x₃ (decimal c.args.align) w₃ (omega (arith, c.requires)) c.put_number-at-2.ensures.0 c.put_number-at-2.ensures.1 in
    let x₅ = x₄ ++ logical_word in
    let w₅ = then c.args.d.now _ _ 0 _ _ x₄ (logical_word) w₄ (omega (arith, c.requires)) refl c.copy_in-3.ensures in
    let x₆ = x₅ ++ (decimal c.args.count) in
    let w₆ = then c.args.d.now _ _ 0 _ _ x₅ (decimal c.args.count) w₅ (omega (arith, c.requires)) c.put_number-at-3.ensures.0 c.put_number-at-3.ensures.1 in
    let x₇ = x₆ ++ newline in
    let w₇ = then c.args.d.now _ _ 0 _ _ x₆ (newline) w₆ (omega (arith, c.requires)) refl c.put8.ensures in
    (w₇.place ∙ omega arith, w₇.bytes, omega arith)
