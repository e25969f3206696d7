use Rattle.fault_injector.proofs.AloneRun.{one_fault_run}
use Rattle.fault_injector.proofs.runs.run_laws.one_fault_runs_by_its_act.Goals as goal

pub returns : goal.returns
returns c = one_fault_run (record { reads = c.operands_are_there.ensures; one = c.one_fault_makes_its_difference.ensures })
