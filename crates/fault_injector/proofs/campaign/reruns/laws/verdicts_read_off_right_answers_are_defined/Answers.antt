use Rattle.fault_injector.proofs.VerdictRead.{verdicts_are_read}
use Rattle.fault_injector.proofs.campaign.reruns.laws.verdicts_read_off_right_answers_are_defined.Goals as goal

pub returns : goal.returns
returns c =
    verdicts_are_read
    (record {
      reads = c.operands_are_there.ensures;
      runs = c.runs_under_acts_keep_the_run_law.ensures.runs;
      groups = c.runs_under_acts_keep_the_run_law.ensures.groups;
      ends = c.ends_under_acts_are_read_off_the_answers.ensures.ends;
      outputs = c.ends_under_acts_are_read_off_the_answers.ensures.outputs;
      cycles = c.right_answers_stand_for_values.ensures.cycle;
      first = c.right_answers_stand_for_values.ensures.cells_at_first;
    })
