use Rattle.fault_injector.proofs.WholeRun.{runs_kept, group_stands}
use Rattle.fault_injector.proofs.runs.run_laws.runs_under_acts_keep_the_run_law.Goals as goal

pub returns : goal.returns
returns c = record {
  runs = runs_kept
      (record {
        cycle = record {
          reads = c.operands_are_there.ensures;
          cells = c.cells_have_two_parts.ensures;
          step = c.acts_keep_the_step_law.ensures.step;
          near = c.acts_keep_the_step_law.ensures.near;
        };
        words = c.words_split_in_one_way.ensures;
        residues = c.expected_residues_are_residues.ensures;
        entries = c.entries_keep_their_rules.ensures;
        operands = c.operands_are_in_their_types.ensures;
        initial = c.right_answers_stand_for_values.ensures.cells_at_first;
      });
  groups = group_stands;
}
