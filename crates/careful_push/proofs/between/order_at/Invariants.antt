use Prim.Native.Nat.{◌+◌}
use mathlib.Core.Path.{◌≡◌}
use lib.ListN.{length, take, drop}
use Rattle.careful_stores.specs.Order.{up_to, order_at}
use Rattle.careful_push.proofs.between.order_at.Given as goal

abbrev pub invariant-loop-i : goal.invariant-loop-i
invariant-loop-i l = order_at l.place l.listed ≡ length (take l.i l.listed) + up_to l.place (drop l.i l.listed)
