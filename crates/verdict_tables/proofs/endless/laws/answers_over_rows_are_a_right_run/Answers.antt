use Rattle.coded_machine.specs.CycleEnds.{initial_words}
use Rattle.fault_injector.specs.RunLaw.{no_words}
use Rattle.verdict_tables.proofs.RightAnswers.{right_run}
use Rattle.verdict_tables.proofs.endless.laws.answers_over_rows_are_a_right_run.Goals as goal

pub returns : goal.returns
returns c = λ t g acts rows. right_run t g acts 0 no_words (initial_words g t.seed) rows
