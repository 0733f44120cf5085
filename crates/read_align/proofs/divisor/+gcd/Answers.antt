use native.Mathlib.Nat.{mod-lt, pos_of_ne-zero}
use native.Mathlib.Omega.{arith}
use Prim.Native.Nat.{◌%◌, ◌<◌}
use Rattle.read_align.proofs.Euclid.{greatest-zero, greatest-more}
use Rattle.read_align.proofs.divisor.+gcd.Goals as goal

pub returns-then-b-eq0 : goal.returns-then-b-eq0
returns-then-b-eq0 t c = greatest-zero c.args.a c.args.b c.if-b-eq0.true

pub gcd-requires : goal.gcd-requires
gcd-requires t c =
    let f : c.args.a % c.args.b < c.args.b = mod-lt c.args.a (pos_of_ne-zero c.if-b-eq0.false) in
    (omega arith, tt)

pub returns : goal.returns
returns t c = greatest-more c.gcd.result c.args.a c.args.b c.gcd.ensures
