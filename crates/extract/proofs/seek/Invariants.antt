use Prim.Native.Nat.{ℕ, ◌≤◌, ◌<◌, ◌-◌, ◌+◌, ◌*◌}
use lib.ListN.{length}
use Rattle.extract.specs.Extract.{lba_at}
use Rattle.extract.specs.Rules.{most_records}
use Rattle.extract.proofs.seek.Given as goal

abbrev pub invariant-loop-lo : goal.invariant-loop-lo
invariant-loop-lo l =
    (l.lo ≤ l.hi) ×
    (l.hi ≤ l.n) ×
    (l.n ≤ most_records) ×
    (24 + l.n * 516 ≤ length l.x) ×
    ((j : ℕ) → j < l.lo → lba_at l.x j < l.lba) ×
    ((j : ℕ) → l.hi ≤ j → j < l.n → l.lba < lba_at l.x j)

abbrev pub decreases-loop-lo : goal.decreases-loop-lo
decreases-loop-lo l = l.hi - l.lo
