use Rattle.read_align.proofs.used_starts.Says.{primary-starts, starts-more}
use Rattle.record_entry.specs.declared.MBRPartitionEntry.{MBRPartitionEntry}
use Rattle.record_mbr.specs.Mbr.{primaries}
use Rattle.chain.specs.Walk.{part_in}
use Rattle.read_align.specs.Align.{used_starts, alignment}
use lib.ListN.{length, take}
use lib.Seq.{take-length}
use Prim.Native.Nat.{ℕ, ◌<◌}
use mathlib.Core.List.{List, [], ◌∷◌, ◌++◌, map}
use mathlib.Core.Path.{◌≡◌, ap, ◌∙◌}
use native.Mathlib.Omega.{arith}
use Rattle.read_align.proofs.used_starts.alignment_of.Goals as goal

behind : MBRPartitionEntry → List ℕ → List ℕ
behind e z = z ++ used_starts (e ∷ [])

pub loop-i-init : goal.loop-i-init
unfolding behind
loop-i-init c =
    let h = c.args.h in (
      c.add-4.ensures.grown
          ∙ ap (behind h.partition_4)
          (c.add-3.ensures.grown ∙ ap (behind h.partition_3) (c.add-2.ensures.grown ∙ ap (behind h.partition_2) (c.add.ensures.grown ∙ ap (behind h.partition_1) c.new-starts.ensures)))
          ∙ primary-starts h.partition_1 h.partition_2 h.partition_3 h.partition_4,
      omega (arith, ap length c.new-starts.ensures, c.add.ensures.long, c.add-2.ensures.long, c.add-3.ensures.long, c.add-4.ensures.long),
    )

pub loop-i-preserved : goal.loop-i-preserved
unfolding behind
loop-i-preserved c =
    let b : c.loop-i.i-index < length c.args.found.now = omega arith in (
      c.add-in-loop-i.ensures.grown ∙ ap (behind c.part_at.result) c.loop-i.invariant.0
          ∙ rw c.part_at.ensures (starts-more (primaries c.args.h) c.args.x.now c.args.found.now c.loop-i.i-index b),
      omega (arith, c.loop-i.invariant.1, c.add-in-loop-i.ensures.long),
    )

pub returns : goal.returns
returns c =
    let is = c.args.found.now in
    let z : c.loop-i.i-index ≡ length is = omega arith in
    c.find_alignment.ensures
    ∙ ap alignment
    (c.deref.ensures.0 ∙ c.loop-i.invariant.0
    ∙ ap (λ (y : List ℕ). used_starts (primaries c.args.h ++ map (part_in c.args.x.now) y)) (ap (λ (k : ℕ). take k is) z ∙ take-length is))
