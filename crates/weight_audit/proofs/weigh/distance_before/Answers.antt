use Rattle.std.proofs.Common.{subst}
use Rattle.std.proofs.lemmas.Result.{IfOk-from_err}
use Rattle.weight_audit.specs.Sweeping.{WeightsBefore, MarksBefore}
use Rattle.weight_audit.proofs.weigh.distance_before.Goals as goal

pub returns : goal.returns
returns c = λ out borders is.
    let g = c.args.graph.now in
    let weights = subst (λ xs. WeightsBefore g xs c.in_ok-weights.weights.items) c.weights.ensures c.in_ok-weights.ensures in
    let marks = subst (λ xs. MarksBefore g xs c.in_ok-reached.reached.items) c.reached.ensures c.in_ok-reached.ensures in
    rw c.new.ensures (record { weights = weights.are out borders is.weights; reached = marks.are out borders is.reached })

pub returns-in_err-weights : goal.returns-in_err-weights
returns-in_err-weights c = IfOk-from_err c.from_residual.result _ c.from_residual.ensures.0

pub returns-in_err-reached : goal.returns-in_err-reached
returns-in_err-reached c = IfOk-from_err c.from_residual-in_err-reached.result _ c.from_residual-in_err-reached.ensures.0
