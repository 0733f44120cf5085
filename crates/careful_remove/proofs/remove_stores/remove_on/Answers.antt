use mathlib.Core.Path.{◌≡◌, refl, sym, ap, ◌∙◌}
use native.Mathlib.Omega.{arith}
use mathlib.Core.Bool.{true}
use lib.ListN.{length}
use lib.Seq.{length-take-le}
use Rattle.table.specs.Table.{logicals, most}
use Rattle.base.specs.Put.{put}
use Rattle.record_entry.specs.declared.MBRPartitionEntry.{MBRPartitionEntry}
use Rattle.sound.specs.Sound.{contents_of, soundb}
use Rattle.careful.specs.Stores.{remove_store}
use Rattle.careful.specs.Careful.{extended_area, remove_refusals, remove_change}
use Prim.Native.Nat.{ℕ, ◌-◌}
use Rattle.table_lookup.proofs.Decision.{names}
use Rattle.careful_stores.specs.Stored.{store_bytes}
use Rattle.careful_stores.proofs.push_writer.Laws.{tells-stored, one_store}
use Rattle.careful_remove.proofs.remove_stores.Laws.{remove-holds}
use borrow.Author.Rules.{rules}
use Rattle.careful_remove.proofs.remove_stores.remove_on.Goals as goal

pub returns : goal.returns
unfolding remove_change
returns c =
    let t = contents_of c.args.t in
    let cs = remove_refusals (length c.args.out.now) c.args.number t in
    let ss = (remove_change c.args.number t).stores in
    let s : soundb t ≡ true = sym c.is_sound.ensures ∙ c.if-not-is_sound.false in
    let m : length c.args.t.logical_partitions ≡ most = search rules in
    let n : length (logicals c.args.t) ≡ c.args.t.count = length-take-le c.args.t.count c.args.t.logical_partitions (omega (arith, m, c.requires)) in
    let w = names c.args.number _ (sym c.kind_of.ensures ∙ c.in-Logical.is) in
    let v = c.put_removal.ensures ∙ ap (λ (e : MBRPartitionEntry). put c.args.out.now 0 (store_bytes (remove_store e (logicals c.args.t) c.in-Logical.k))) c.area_of.ensures
    ∙ ap (λ (k : ℕ). put c.args.out.now 0 (store_bytes (remove_store (extended_area t) (logicals c.args.t) k))) w.0 ∙ one_store c.args.out.now (remove_store (extended_area t) (logicals c.args.t) (c.args.number - 5)) in
    tells-stored 1 c.args.out.now _ cs ss (remove-holds (length c.args.out.now) c.args.number t s w.1 (omega (arith, n, w.0, c.if-t-k.false)) c.if-out-lt-STORES.false) refl v
