use Rattle.fault_injector.proofs.Scripting.{scripted_runs_are_right}
use Rattle.fault_injector.proofs.runs.run_laws.scripted_runs_are_right_runs.Goals as goal

pub returns : goal.returns
returns c = scripted_runs_are_right c.operands_are_there.ensures
