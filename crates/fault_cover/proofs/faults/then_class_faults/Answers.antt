use Rattle.std.proofs.Common.{◌≡◌, length, arith}
use Rattle.fault_cover.specs.Classes.{singles_of}
use Rattle.fault_cover.proofs.Going.{passes_none, passes_more}
use Rattle.fault_cover.proofs.faults.then_class_faults.Goals as goal

pub operations-init : goal.operations-init
operations-init g c = λ stops survey. passes_none

pub operations-preserved : goal.operations-preserved
operations-preserved g c = λ stops survey.
    passes_more (λ k. singles_of c.args.class c.args.subject.now.graph.now k) c.operations.k (c.operations.invariant stops survey)
    (c.then_operation_faults-listener.ensures stops survey)

pub returns : goal.returns
returns g c =
    let all : c.operations.k ≡ length c.args.subject.now.graph.now.operations =
    omega (arith, c.operations-test.false, c.operations.auto.k-end, c.len-k-end.ensures.count) in rw all at c.operations.invariant
