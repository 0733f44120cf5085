use Rattle.read_align.proofs.divisor.+gcd.Given as goal

-- the second number falls
abbrev pub decreases-gcd : goal.decreases-gcd
decreases-gcd l = l.b
