use mathlib.Core.Path.{refl}
use native.Mathlib.Omega.{arith}
use Rattle.base.specs.Bytes.{bytes_of, little}
use Rattle.base.proofs.Put.{behind}
use Rattle.block_slot.specs.Changed.{with_disk}
use Rattle.block_slot.proofs.in_place.put_disk.Goals as goal

pub returns : goal.returns
unfolding with_disk
returns c =
    behind c.args.b.now _ _ 0 4 (bytes_of little 4 c.args.size) (bytes_of little 4 c.args.disk) refl (omega (arith, c.requires)) c.put32.ensures c.put32-2.ensures
