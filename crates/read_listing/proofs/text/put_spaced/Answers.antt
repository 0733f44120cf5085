use Rattle.read_listing.proofs.text.Text.{ten, Written, then}
use Rattle.read_listing.specs.Text.{decimal, space}
use native.Mathlib.Omega.{arith}
use Prim.Native.Nat.{◌+◌}
use mathlib.Core.Path.{refl}
use borrow.Author.Rules.{rules}
use Rattle.read_listing.proofs.text.put_spaced.Goals as goal

pub returns : goal.returns
returns c =
    let t-v = ten c.args.v (search rules) in
    let w : Written c.args.d.now _ c.args.at (c.args.at + 1) space = record { place = refl; bytes = c.put8.ensures } in
    let z = then c.args.d.now _ _ c.args.at (c.args.at + 1) _ space (decimal c.args.v) w (omega (arith, c.requires)) c.put_number.ensures.0 c.put_number.ensures.1 in
    (z.place, z.bytes)
