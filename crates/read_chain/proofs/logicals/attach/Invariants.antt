use mathlib.Core.Path.{◌≡◌}
use Rattle.chain.specs.Chain.{first_link}
use Rattle.chain.specs.Walk.{rebuilt, link_to}
use Rattle.chain.proofs.Slots.{sofar}
use Rattle.read_chain.specs.Way.{link_by}
use Rattle.read_chain.proofs.logicals.attach.Given as goal

abbrev pub invariant-loop-j : goal.invariant-loop-j
invariant-loop-j l =
    (l.ls ≡ sofar (rebuilt l.x (first_link l.fn.extended) l.found) l.j)
    × (link_by l.way ≡ link_to l.x (first_link l.fn.extended) l.found l.j)
