-- The table that was read lists at most so many partitions, and a new one stands behind no more.
use Rattle.std.proofs.Common.{◌≤◌}
use native.Mathlib.Omega.{arith}
use lib.ListN.{length-take}
use Rattle.table.specs.Table.{logicals, most}
use Rattle.read_table.proofs.Facts.{given-few}
use Rattle.careful_push.proofs.Lists.{order-few}
use Rattle.station.proofs.change.number_of.Goals as goal

pub order_at-requires : goal.order_at-requires
order_at-requires c = given-few c.args.x.now c.in-Ok.t c.in-Ok.ensures

pub overflow_add-result : goal.overflow_add-result
overflow_add-result c =
    let t = c.in-Ok.t in
    let few : t.count ≤ most = given-few c.args.x.now t c.in-Ok.ensures in
    omega (arith, c.order_at.ensures, order-few c.of.result.lba (logicals t), length-take t.count t.logical_partitions, few)
