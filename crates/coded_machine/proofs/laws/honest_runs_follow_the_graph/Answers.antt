use Rattle.coded_machine.proofs.RunLaws.{honest_run, follows_so_far}
use Rattle.coded_machine.proofs.laws.honest_runs_follow_the_graph.Goals as goal

pub returns : goal.returns
returns c =
    let law = c.right_answers_stand_for_values.ensures in
    record { so_far = follows_so_far law.cycle law.cells_at_first; whole = honest_run law.cycle law.cells_at_first }
