use Rattle.fault_injector.proofs.Steps.{Laws, step_under, outcomes_are_near}
use Rattle.fault_injector.proofs.runs.laws.acts_keep_the_step_law.Goals as goal

pub returns : goal.returns
returns c =
    let laws : Laws = record { words = c.words_split_in_one_way.ensures; steps = c.right_answers_keep_the_step_law.ensures.exchanged } in
    record { step = step_under laws; near = outcomes_are_near laws }
