use mathlib.Core.Path.{◌≡◌, refl, sym, ap, ◌∙◌}
use mathlib.Core.List.{List, []}
use native.Mathlib.Omega.{arith}
use Prim.Native.Nat.{ℕ, ◌+◌}
use Rattle.std.specs.Prelude.{Some}
use Rattle.base.specs.Said.{refusal_code, gives}
use Rattle.record_entry.specs.declared.MBRPartitionEntry.{MBRPartitionEntry}
use Rattle.extract.specs.Disk.{Disk}
use Rattle.extract.specs.Extract.{disk_of}
use Rattle.chain.specs.declared.Head.{Head}
use Rattle.chain.specs.declared.Met.{Met}
use Rattle.chain.specs.declared.Met.TheVariants.{Refused, Absent, Ebr}
use Rattle.chain.specs.Chain.{view, logicals_of}
use Rattle.chain.specs.Walk.{ebr_in, met_said, HeadAt, places_of, counted}
use Rattle.chain.proofs.Steps.{first-shut, first_on}
use Rattle.read_chain.proofs.read_chain.Goals as goal

shut : (x : List ℕ) (d : Disk) (e : MBRPartitionEntry) (m : Met) → ((h : Head) → m ≡ Ebr h → ⊥) → met_said x m ≡ view d (e.starting_lba + 0)
    → places_of (logicals_of (view d) (Some e)) ≡ gives []
shut x d e (Refused r) n q = first-shut d e (refusal_code r) q
shut x d e (Absent a) n q = first-shut d e 3 q
shut x d e (Ebr h) n q = absurd (n h refl)

pub returns-in_default : goal.returns-in_default
returns-in_default c =
    let e = shut c.args.x.now (disk_of c.args.x.now) c.args.extended c.open_at.result c.in_default.not-Ebr (rw c.area_of-base.ensures at c.open_at.ensures.result_value) in
    record { value = ap (counted 0) (sym e); noted_all = rw e tt }

pub ebr_step-requires : goal.ebr_step-requires
ebr_step-requires c =
    let h : HeadAt c.args.x.now (c.area_of-base.result.0 + 0) c.in-Ebr.first = rw c.in-Ebr.is at c.open_at.ensures.result_value_2.1 in
    record { n_value = c.requires.n_value; d_value = c.requires.d_value; head_at = h; left_le_most = (omega arith, c.requires.found_len) }

pub returns : goal.returns
returns c =
    let d = disk_of c.args.x.now in
    let h = c.in-Ebr.first in
    let f : gives (ebr_in c.args.x.now h) ≡ view d (c.args.extended.starting_lba + 0) = sym (ap (met_said c.args.x.now) c.in-Ebr.is) ∙ rw c.area_of-base.ensures at c.open_at.ensures.result_value in
    let e = first_on d c.args.extended (ebr_in c.args.x.now h) f in
    record { value = rw c.area_of-base.ensures at c.ebr_step.ensures.value ∙ ap (counted 0) (sym e); noted_all = rw e (rw c.area_of-base.ensures at c.ebr_step.ensures.noted_all) }
