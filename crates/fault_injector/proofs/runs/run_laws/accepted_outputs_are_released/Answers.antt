use Rattle.fault_injector.proofs.AcceptedShown.{accepted_is_released}
use Rattle.fault_injector.proofs.runs.run_laws.accepted_outputs_are_released.Goals as goal

pub returns : goal.returns
returns c =
    let law = c.runs_under_acts_keep_the_run_law.ensures in
    accepted_is_released law.runs law.groups c.ends_under_acts_are_read_off_the_answers.ensures.ends c.scripted_runs_are_right_runs.ensures
