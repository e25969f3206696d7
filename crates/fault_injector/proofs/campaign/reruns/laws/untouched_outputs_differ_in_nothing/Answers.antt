use Rattle.fault_injector.proofs.TouchedOutputs.{outputs_same, words_follow}
use Rattle.fault_injector.proofs.campaign.reruns.laws.untouched_outputs_differ_in_nothing.Goals as goal

pub returns : goal.returns
returns c = record { words = words_follow; outputs = outputs_same }
