-- The way to an EBR as a link. Assumes nothing.
use Rattle.read_chain.specs.declared.logicals.Way.{Way}
use Rattle.chain.specs.Chain.{Link}

-- the way to an EBR, as a link
abbrev pub link_by : Way → Link
link_by w = record { sectors = w.sectors; first = w.first; last = w.last }
