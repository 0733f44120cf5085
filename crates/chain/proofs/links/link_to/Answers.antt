use mathlib.Core.Path.{◌≡◌, ap, ◌∙◌}
use Prim.Native.Nat.{ℕ, ◌-◌}
use Rattle.chain.specs.Facts.{link_in}
use Rattle.chain.specs.Links.{link_entry}
use Rattle.chain.proofs.links.link_to.Goals as goal

pub returns : goal.returns
unfolding link_entry link_in
returns c =
    let q : c.link_of-link.result.0 ≡ c.args.l.absolute_ebr_lba.0 - c.args.e.starting_lba = c.link_of-link.ensures ∙ ap (λ (b : ℕ). c.args.l.absolute_ebr_lba.0 - b) c.area_of.ensures in
    rw (c.unwrap_or.ensures, c.unwrap_or-2.ensures, c.empty.ensures, q)
