use Rattle.fault_injector.proofs.ReferenceStands.{reference_stands}
use Rattle.fault_injector.proofs.campaign.reruns.laws.right_references_stand_for_the_graphs_run.Goals as goal

pub returns : goal.returns
returns c = reference_stands c.right_answers_stand_for_values.ensures.cycle c.right_answers_stand_for_values.ensures.cells_at_first
