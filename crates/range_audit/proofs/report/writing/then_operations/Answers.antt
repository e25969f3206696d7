use Rattle.std.proofs.Common.{◌≡◌, length, add-one, arith}
use Rattle.vcp_outside.specs.Pens.{unmoved, and_then}
use Rattle.range_audit.proofs.report.writing.then_operations.Goals as goal

pub operations-init : goal.operations-init
operations-init g c = unmoved

pub operations-preserved : goal.operations-preserved
operations-preserved g c = rw (add-one c.operations.i) (and_then c.operations.invariant c.then_operation-pen.ensures)

pub returns : goal.returns
returns g c =
    let all : c.operations.i ≡ length c.args.graph.now.operations =
    omega (arith, c.operations-test.false, c.operations.auto.i-end, c.len-i-end.ensures.count) in
    rw all at c.operations.invariant
