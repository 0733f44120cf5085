-- The link that a way stands for determines it. Assumes nothing.
use mathlib.Core.Path.{◌≡◌, refl}
use Rattle.base.proofs.Readings.{undone-injective}
use Rattle.chain.specs.Chain.{Link}
use Rattle.read_chain.specs.declared.logicals.Way.{Way}
use Rattle.read_chain.specs.Way.{link_by}

pub way-injective : (a b : Way) → link_by a ≡ link_by b → a ≡ b
way-injective = undone-injective link_by from (λ _. refl)
  where
    from : Link → Way
    from k = record { sectors = k.sectors; first = k.first; last = k.last }
