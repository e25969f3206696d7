use Rattle.coded_machine.proofs.RunLaws.{run_starts, run_goes_on, run_stands, run_ends}
use Rattle.coded_machine.proofs.laws.runs_follow_their_answers.Goals as goal

pub returns : goal.returns
returns c = record { starts = run_starts; goes_on = run_goes_on; stands = run_stands; ends = run_ends }
