use Rattle.coded_machine.proofs.FirstRows.{first_rows}
use Rattle.coded_machine.proofs.rows.laws.rows_before_a_wrong_answer_follow_the_graph.Goals as goal

pub returns : goal.returns
returns c = let law = c.right_answers_stand_for_values.ensures in first_rows law.cycle law.cells_at_first
