use Rattle.std.proofs.Common.{◌≡◌, slice_get, length, arith}
use Rattle.fault_sites.specs.Rests.{groups_at}
use Rattle.fault_sites.proofs.Spending.{spends_none, spends_more}
use Rattle.fault_sites.proofs.rests.then_cycle.Goals as goal

pub operations-init : goal.operations-init
operations-init g c = spends_none

pub operations-preserved : goal.operations-preserved
operations-preserved g c =
    spends_more (λ k. groups_at c.args.graph.now c.args.more c.args.n k (slice_get c.args.graph.now.operations k)) c.operations.k c.operations.invariant
    c.then_operation-spent.ensures

pub returns : goal.returns
returns g c =
    let all : c.operations.k ≡ length c.args.graph.now.operations =
    omega (arith, c.operations-test.false, c.operations.auto.k-end, c.len-k-end.ensures.count) in
    rw all at c.operations.invariant
