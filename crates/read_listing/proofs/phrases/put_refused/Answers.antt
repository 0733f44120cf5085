use Rattle.read_listing.proofs.text.Text.{decimal-short, Written, then}
use Rattle.read_listing.specs.Words.{refused_text, refused_word}
use Rattle.read_listing.specs.Text.{decimal, newline}
use native.Mathlib.Omega.{arith}
use mathlib.Core.List.{◌++◌}
use mathlib.Core.Path.{refl, ◌∙◌}
use Rattle.read_listing.proofs.phrases.put_refused.Goals as goal

pub put_number-at-requires : goal.put_number-at-requires
put_number-at-requires c =
    let t = decimal-short 2 c.wide.result (omega arith) in
    omega (arith, c.requires)

pub put8-requires : goal.put8-requires
put8-requires c =
    let t = decimal-short 2 c.wide.result (omega arith) in
    omega (arith, c.requires)

pub overflow_add-result : goal.overflow_add-result
overflow_add-result c =
    let t = decimal-short 2 c.wide.result (omega arith) in
    omega arith

pub returns : goal.returns
unfolding refused_text
returns c =
    let t = decimal-short 2 c.wide.result (omega arith) in
    let w₁ : Written c.args.d.now _ 0 8 refused_word = record { place = refl; bytes = c.copy_in.ensures } in
    let w₂ = then c.args.d.now _ _ 0 8 _ refused_word (decimal c.wide.result) w₁ (omega (arith, c.requires)) c.put_number-at.ensures.0 c.put_number-at.ensures.1 in
    let w₃ = then c.args.d.now _ _ 0 _ _ (refused_word ++ decimal c.wide.result) newline w₂ (omega (arith, c.requires)) refl c.put8.ensures in
    rw (← c.wide.ensures.0) (w₃.place ∙ omega arith, w₃.bytes)
