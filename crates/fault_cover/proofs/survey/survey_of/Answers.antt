use Rattle.std.proofs.lemmas.Result.{IfOk-from_err}
use Rattle.fault_cover.proofs.survey.survey_of.Goals as goal

pub returns-in_err-weights-clause-survey : goal.returns-in_err-weights-clause-survey
returns-in_err-weights-clause-survey c = IfOk-from_err c.from_residual.result _ c.from_residual.ensures.0

pub returns-in_err-weights-clause-mapped : goal.returns-in_err-weights-clause-mapped
returns-in_err-weights-clause-mapped c = IfOk-from_err c.from_residual.result _ c.from_residual.ensures.0

pub returns-in-Err-clause-survey : goal.returns-in-Err-clause-survey
returns-in-Err-clause-survey c = tt

pub returns-in-Err-clause-mapped : goal.returns-in-Err-clause-mapped
returns-in-Err-clause-mapped c = tt
