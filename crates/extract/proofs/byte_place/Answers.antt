use native.Mathlib.Omega.{arith}
use mathlib.Core.Path.{sym, ◌∙◌}
use Rattle.extract.specs.Answers.{place_says}
use Rattle.extract.proofs.header_rules.Size.{shift-size}
use Rattle.extract.proofs.Shifted.{place-said}
use Rattle.extract.proofs.byte_place.Goals as goal

pub overflow_cast-result-2 : goal.overflow_cast-result-2
overflow_cast-result-2 c = omega (arith, (shift-size c.args.sector_size (sym c.size_ok.ensures ∙ c.if-not-size_ok.false)).1)

pub overflow_shl-result : goal.overflow_shl-result
overflow_shl-result c = omega (arith, (shift-size c.args.sector_size (sym c.size_ok.ensures ∙ c.if-not-size_ok.false)).1)

pub returns-then-not-size_ok : goal.returns-then-not-size_ok
unfolding place_says
returns-then-not-size_ok c = simp (sym c.size_ok.ensures ∙ c.if-not-size_ok.true)

pub returns : goal.returns
returns c =
    place-said c.args.sector_size c.args.lba (sym c.size_ok.ensures ∙ c.if-not-size_ok.false) c.ranges.lba.fits
