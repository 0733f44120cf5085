use Rattle.std.proofs.lemmas.Result.{err_from_is_err_and}
use mathlib.Core.Path.{sym}
use Rattle.base.specs.Said.{value_or}
use Rattle.table.specs.declared.MBR.{MBR}
use Rattle.table_new.specs.Disk.{update_says}
use Rattle.block.proofs.calls.Laws.{passed, on-done, after-done}
use Rattle.block_new.specs.Updated.{updated_on}
use Rattle.block_new.proofs.other_disk.Changed.{disk-refused, disk-done, updated-table}
use Rattle.block_new.proofs.other_disk.update_from.Goals as goal

pub returns-in_err-e : goal.returns-in_err-e
returns-in_err-e c =
    let p = err_from_is_err_and c.from_residual-in_err-e.result c.from_residual-in_err-e.ensures.1 in
    let h = sym c.in_ok-check.ensures in
    let w = disk-refused c.args.b.now c.args.x.now _ h (sym c.in_err-e.ensures.result_value) in
    let o = on-done c.args.b.now _ (λ (t : MBR). update_says t c.args.x.now) (updated_on c.args.b.now c.args.x.now) h w.1 in
    record {
      said = rw (p.1, p.2) w.0;
      left = o.1;
      table = after-done c.args.b.now _ _ (λ (t : MBR). value_or t (update_says t c.args.x.now)) h w.1 (updated-table c.args.b.now c.args.x.now c.in_err-e.ensures.bytes (passed _ h));
    }

pub returns : goal.returns
returns c =
    let h = sym c.in_ok-check.ensures in
    let w = disk-done c.args.b.now c.args.x.now _ _ h (sym c.in_ok-e.ensures.result_value) c.put_disk.ensures in
    let o = on-done c.args.b.now _ (λ (t : MBR). update_says t c.args.x.now) (updated_on c.args.b.now c.args.x.now) h w.1 in
    record {
      said = w.0;
      left = o.1;
      table = after-done c.args.b.now _ _ (λ (t : MBR). value_or t (update_says t c.args.x.now)) h w.1 (updated-table c.args.b.now c.args.x.now c.in_ok-e.ensures.bytes (passed _ h));
    }
