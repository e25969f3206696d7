use Rattle.coded_unit.proofs.Steps.{right_steps, exchanged_steps}
use Rattle.coded_unit.proofs.laws.right_answers_keep_the_step_law.Goals as goal

pub returns : goal.returns
returns c = record { step = right_steps; exchanged = exchanged_steps }
