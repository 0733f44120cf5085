use mathlib.Core.Path.{refl}
use native.Mathlib.Omega.{arith}
use Rattle.base.specs.Bytes.{bytes_of, little}
use Rattle.base.proofs.Put.{behind}
use Rattle.block_free.proofs.run_bytes.put_run.Goals as goal

pub returns : goal.returns
returns c =
    behind c.args.out.now _ _ c.args.at 4 (bytes_of little 4 c.args.r.start) (bytes_of little 4 c.args.r.length) refl (omega (arith, c.requires)) c.put32.ensures c.put32-2.ensures
