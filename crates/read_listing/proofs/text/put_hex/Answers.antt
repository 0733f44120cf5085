use Rattle.read_listing.proofs.text.Text.{hex-written}
use mathlib.Core.Path.{refl}
use Rattle.read_listing.proofs.text.put_hex.Goals as goal

pub returns : goal.returns
returns c =
    let e₂ = rw c.hex_digit.ensures at c.put8-2.ensures in
    let e₃ = rw c.hex_digit-2.ensures at c.put8-3.ensures in
    (refl, hex-written c.args.d.now _ _ _ c.args.at c.args.b c.requires c.put8.ensures e₂ e₃)
