use Rattle.std.proofs.Common.{◌≡◌, slice_get, length, arith}
use Rattle.fault_sites.specs.Rests.{groups_at}
use Rattle.fault_sites.proofs.Counting.{count_more}
use Rattle.fault_sites.proofs.rests.count_in.Goals as goal

pub operations-preserved : goal.operations-preserved
operations-preserved c =
    let k = c.operations.k in
    record {
      value = λ n.
          count_more (λ k. groups_at c.args.graph.now c.args.more n k (slice_get c.args.graph.now.operations k)) k _ _ (c.operations.invariant.value n)
          (c.count_at-count.ensures.count n);
      few = omega arith;
    }

pub returns-clause-count : goal.returns-clause-count
returns-clause-count c = λ n.
    let all : c.operations.k ≡ length c.args.graph.now.operations = omega arith in
    rw all at (c.operations.invariant.value n)
