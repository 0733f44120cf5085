use Rattle.base.specs.Said.{refusal_code}
use mathlib.Core.Path.{refl, sym, ap}
use native.Mathlib.Omega.{arith}
use Prim.Native.Nat.{◌<◌}
use Rattle.extract.specs.Extract.{count}
use Rattle.extract.specs.Extract.{record_at}
use Rattle.chain.proofs.Steps.{opened-given, opened-refused}
use Rattle.record_ebr.specs.declared.Entries.{Entries}
use Rattle.chain.proofs.open_record.Goals as goal

pub returns-in-Err : goal.returns-in-Err
returns-in-Err c =
    let f = rw (c.in-Err.is, c.record_at-r.ensures) at c.open.ensures in
    record { result_value = opened-refused (record_at c.args.x.now c.args.i) (refusal_code c.in-Err.k) f; result_value_2 = (refl, tt) }

pub returns-in-Ok : goal.returns-in-Ok
returns-in-Ok c =
    let b : c.args.i < count c.args.x.now = omega (arith, c.requires.n_value.0, c.requires.i_lt_n.0) in
    let f = rw (c.in-Ok.is, c.record_at-r.ensures) at c.open.ensures in
    let k = opened-given (record_at c.args.x.now c.args.i) c.in-Ok.e f in
    let p = ap (λ (y : Entries). y.partition_1.starting_lba) (sym k.1) in
    let t = ap (λ (y : Entries). y.partition_2.starting_lba) (sym k.1) in
    record { result_value = k.0; result_value_2 = (refl, record { inside = b; listed = c.requires.i_lt_n.1; at = refl; start = p; link = t }) }
