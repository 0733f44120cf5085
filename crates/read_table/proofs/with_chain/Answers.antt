use Rattle.std.specs.Prelude.{◌≡◌, Option, None, Some, Err, unwrap_or}
use Rattle.base.specs.Said.{refusal_code, answered}
use Rattle.record_entry.specs.declared.MBRPartitionEntry.{MBRPartitionEntry}
use Rattle.record_entry.specs.Entry.{no_entry}
use Rattle.record_mbr.specs.Mbr.{primaries, extended_of}
use Rattle.extract.specs.declared.Extract.{Extract}
use Rattle.extract.specs.Extract.{disk_of}
use Rattle.chain.specs.Chain.{first_link}
use Rattle.chain.specs.Walk.{first_link_of}
use Rattle.chain.proofs.Slots.{chain-read, chain-refused}
use Rattle.read_table.specs.Read.{table_read}
use Rattle.read_table.proofs.Says.{table-refused, table-given}
use Rattle.read_table.proofs.Says.{chain-refused as header-refused}
use borrow.Author.Rules.{rules}
use lib.Seq.{length-take-le}
use Prim.Native.Nat.{ℕ}
use mathlib.Core.List.{List}
use mathlib.Core.Path.{refl, sym, ap, ◌∙◌}
use native.Mathlib.Omega.{arith}
use Rattle.read_table.proofs.with_chain.Goals as goal

first-or : (o : Option MBRPartitionEntry) → first_link (unwrap_or o no_entry) ≡ first_link_of o
first-or None = refl
first-or (Some e) = refl

pub chain_of-requires : goal.chain_of-requires
chain_of-requires c =
    record { n_value = (ap (λ (y : Extract). y.count) c.requires.0, c.requires.1); d_value = ap (λ (y : Extract). y.disk_size) c.requires.0; ebrs_len = refl }

pub returns-in_err-count : goal.returns-in_err-count
returns-in_err-count c =
    let o = extended_of (primaries c.args.header) in
    let k = c.in_err-count.field-0.0 in
    let r : c.from_residual.result ≡ Err k = search rules in
    let v = rw c.get_extended_partition-extended.ensures at c.in_err-count.ensures.value in
    ap answered r ∙ ap table_read (header-refused (disk_of c.args.x.now) c.args.header (refusal_code k) (chain-refused c.args.x.now c.requires.1 o (refusal_code k) v))

pub slice_bounds-ebrs-end : goal.slice_bounds-ebrs-end
slice_bounds-ebrs-end c =
    let o = extended_of (primaries c.args.header) in
    let v = rw c.get_extended_partition-extended.ensures at c.in_ok-count.ensures.value in
    let w = rw c.get_extended_partition-extended.ensures at c.chain_of.ensures.noted_all in
    let t = chain-read c.args.x.now c.requires.1 o c.chain_of.new.ebrs c.in_ok-count.count v w in
    omega (arith, t.few, c.chain_of.auto.ebrs)

pub slice_bounds-found-end : goal.slice_bounds-found-end
slice_bounds-found-end c =
    let o = extended_of (primaries c.args.header) in
    let is : List ℕ = c.chain_of.new.ebrs in
    let v = rw c.get_extended_partition-extended.ensures at c.in_ok-count.ensures.value in
    let w = rw c.get_extended_partition-extended.ensures at c.chain_of.ensures.noted_all in
    let t = chain-read c.args.x.now c.requires.1 o is c.in_ok-count.count v w in
    sym (length-take-le c.in_ok-count.count is (omega (arith, t.few, c.chain_of.auto.ebrs)))

pub alignment_of-requires : goal.alignment_of-requires
alignment_of-requires c =
    let o = extended_of (primaries c.args.header) in
    let is : List ℕ = c.chain_of.new.ebrs in
    let v = rw c.get_extended_partition-extended.ensures at c.in_ok-count.ensures.value in
    let w = rw c.get_extended_partition-extended.ensures at c.chain_of.ensures.noted_all in
    let t = chain-read c.args.x.now c.requires.1 o is c.in_ok-count.count v w in
    let n = length-take-le c.in_ok-count.count is (omega (arith, t.few, c.chain_of.auto.ebrs)) in
    record { n_value = (ap (λ (y : Extract). y.count) c.requires.0, c.requires.1); found_few = (omega (arith, n, t.few), t.fit) }

pub returns-in_err-align : goal.returns-in_err-align
returns-in_err-align c =
    let o = extended_of (primaries c.args.header) in
    let is : List ℕ = c.chain_of.new.ebrs in
    let k = c.in_err-align.field-0.0 in
    let r : c.from_residual-in_err-align.result ≡ Err k = search rules in
    let v = rw c.get_extended_partition-extended.ensures at c.in_ok-count.ensures.value in
    let w = rw c.get_extended_partition-extended.ensures at c.chain_of.ensures.noted_all in
    let t = chain-read c.args.x.now c.requires.1 o is c.in_ok-count.count v w in
    ap answered r
    ∙ table-refused c.args.x.now c.args.header is c.in_ok-count.count (omega (arith, t.few, c.chain_of.auto.ebrs)) t.logicals (refusal_code k) c.in_err-align.ensures

pub attach-logical_partitions-requires : goal.attach-logical_partitions-requires
attach-logical_partitions-requires c =
    let o = extended_of (primaries c.args.header) in
    let is : List ℕ = c.chain_of.new.ebrs in
    let v = rw c.get_extended_partition-extended.ensures at c.in_ok-count.ensures.value in
    let w = rw c.get_extended_partition-extended.ensures at c.chain_of.ensures.noted_all in
    let t = chain-read c.args.x.now c.requires.1 o is c.in_ok-count.count v w in
    let n = length-take-le c.in_ok-count.count is (omega (arith, t.few, c.chain_of.auto.ebrs)) in
    record { n_value = (ap (λ (y : Extract). y.count) c.requires.0, c.requires.1); found_few = (omega (arith, n, t.few), t.fit) }

pub returns : goal.returns
returns c =
    let o = extended_of (primaries c.args.header) in
    let is : List ℕ = c.chain_of.new.ebrs in
    let m = c.in_ok-count.count in
    let v = rw c.get_extended_partition-extended.ensures at c.in_ok-count.ensures.value in
    let w = rw c.get_extended_partition-extended.ensures at c.chain_of.ensures.noted_all in
    let t = chain-read c.args.x.now c.requires.1 o is m v w in
    let f : first_link c.unwrap_or-first.result ≡ first_link_of o =
    ap first_link c.unwrap_or-first.ensures ∙ ap (λ z. first_link (unwrap_or c.get_extended_partition-extended.result z)) c.empty.ensures ∙ ap (λ z. first_link (unwrap_or z no_entry)) c.get_extended_partition-extended.ensures ∙ first-or o in
    rw (c.attach-logical_partitions.ensures, f)
    (table-given c.args.x.now c.args.header is m (omega (arith, t.few, c.chain_of.auto.ebrs)) t.logicals c.args.e c.in_ok-align.align c.requires.0 c.in_ok-align.ensures)
