use Rattle.vcp_study_core.specs.SameGraphs.{unplaced}
use Rattle.vcp_study_core.proofs.Comparing.{and_next_by, whole_by}
use Rattle.vcp_study_core.proofs.same_graphs.same_operations.Goals as goal

pub returns : goal.returns
returns c same = whole_by unplaced c.args.a.now c.args.b.now c.loop-i.i c.loop-i-test.false c.if-a-b.false c.loop-i.invariant

pub loop-i-preserved : goal.loop-i-preserved
loop-i-preserved c =
    and_next_by unplaced c.args.a.now c.args.b.now c.loop-i.i _ _ c.loop-i-test.true c.if-a-b.false c.loop-i.invariant
    (c.same_operation.ensures c.if-not-same_operation.false)
