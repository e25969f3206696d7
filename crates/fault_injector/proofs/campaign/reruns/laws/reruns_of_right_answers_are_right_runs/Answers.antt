use Rattle.fault_injector.proofs.RunRight.{reruns_are_right}
use Rattle.fault_injector.proofs.campaign.reruns.laws.reruns_of_right_answers_are_right_runs.Goals as goal

pub returns : goal.returns
returns c = reruns_are_right c.operands_are_there.ensures
