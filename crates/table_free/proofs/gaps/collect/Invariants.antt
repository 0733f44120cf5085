use Rattle.std.proofs.Common.{◌≡◌, ◌+◌, ◌≤◌, length}
use Rattle.std.specs.Slice.Iter.{chunks_exact_rest, chunks_exact_size}
use Rattle.table_free.specs.Free.{runs_among, joined, run_list, runs_in}
use Rattle.table_free.proofs.gaps.collect.Given as goal

abbrev pub invariant-loop-pair : goal.invariant-loop-pair
invariant-loop-pair l =
    record {
      two : chunks_exact_size l.pair-iterator ≡ 2;
      listed : l.runs ≡ run_list (runs_in l.runs);
      few : l.runs.count + l.runs.count + length (chunks_exact_rest l.pair-iterator) ≤ l.initial.runs.count + l.initial.runs.count + length l.ps;
      found : joined (runs_in l.initial.runs) (runs_among l.align l.ps) ≡ joined (runs_in l.runs) (runs_among l.align (chunks_exact_rest l.pair-iterator));
    }
