use Rattle.std.proofs.lemmas.Result.{IfOk-from_err}
use Rattle.weight_audit.proofs.weigh.distance_at.Goals as goal

pub returns-in_err-weights : goal.returns-in_err-weights
returns-in_err-weights c = IfOk-from_err c.from_residual.result _ c.from_residual.ensures.0

pub returns-in_err-reached : goal.returns-in_err-reached
returns-in_err-reached c = IfOk-from_err c.from_residual-in_err-reached.result _ c.from_residual-in_err-reached.ensures.0
