use Rattle.fault_injector.proofs.GroupRuns.{judged_first, judged_next}
use Rattle.fault_injector.proofs.campaign.reruns.laws.groups_are_rerun_one_after_another.Goals as goal

pub returns : goal.returns
returns c = record { starts = judged_first; goes_on = judged_next }
