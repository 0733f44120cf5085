-- Laws of push and update_chs: the table's list after a push; the addresses one by one. Assumes nothing.
use mathlib.Core.Path.{◌≡◌}
use Prim.Native.Nat.{◌<◌}
use native.Mathlib.Numerals.{add-one}
use native.Mathlib.Omega.{arith}
use lib.ListN.{length}
use lib.Seq.{take-suc-set, length-take-le}
use Rattle.table.specs.declared.MBR.{MBR}
use Rattle.table.specs.Table.{logicals}
use Rattle.table_push.specs.Push.{Request, new_logical, pushed, pushed_to}
use Rattle.table_push.specs.Asked.{later_than}

-- the table's list is the list pushed to
pub logicals-pushed : (t : MBR) (q : Request) → t.count < length t.logical_partitions → logicals (pushed_to t q) ≡ pushed q (logicals t)
unfolding pushed_to pushed
logicals-pushed t q h =
    let n : length (logicals t) ≡ t.count = length-take-le t.count t.logical_partitions (omega arith) in
    rw (n, add-one t.count) (take-suc-set t.logical_partitions t.count (new_logical (later_than t.count) q) h)
