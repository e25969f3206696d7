use Rattle.std.proofs.lemmas.Result.{IfOk-from_err}
use Rattle.fault_injector.proofs.runs.scripted.Scripted.new.Goals as goal

pub returns-in_err-carried : goal.returns-in_err-carried
returns-in_err-carried g c = record {
  inside = IfOk-from_err c.from_residual.result _ c.from_residual.ensures.0;
  same = IfOk-from_err c.from_residual.result _ c.from_residual.ensures.0;
  faults = IfOk-from_err c.from_residual.result _ c.from_residual.ensures.0;
  kept = IfOk-from_err c.from_residual.result _ c.from_residual.ensures.0;
  wrong = IfOk-from_err c.from_residual.result _ c.from_residual.ensures.0;
}
