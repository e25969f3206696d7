use Rattle.std.proofs.lemmas.Option.{slice_get-get_or}
use Rattle.graph_passes.proofs.Copies.{folded_pushed}
use Rattle.std.proofs.Common.{ap, ◌∙◌, arith, []}
use Rattle.std.proofs.lemmas.List.{take_all}
use Rattle.graph_passes.specs.Folding.{folded_after}
use Rattle.graph_passes.proofs.folding.folded_operations.Goals as goal

pub operations-preserved : goal.operations-preserved
operations-preserved c =
    folded_pushed _ _ _ c.args.operations.now c.operations.op-index _ _ c.in_ok-push.ensures.items c.operations.invariant c.deref.ensures.value
    (slice_get-get_or c.args.operations.now c.operations.op-index _ c.operations-test.true) c.folded_op-folded.ensures

pub returns : goal.returns
returns c =
    c.operations.invariant ∙ ap (folded_after []) (take_all c.operations.op-index c.args.operations.now (omega (arith, c.operations-test.false)))
