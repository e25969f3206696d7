use Rattle.fault_injector.proofs.EndsRead.{ends_are_read, outputs_are_read}
use Rattle.fault_injector.proofs.WholeRun.{Laws}
use Rattle.fault_injector.proofs.runs.run_laws.ends_under_acts_are_read_off_the_answers.Goals as goal

pub returns : goal.returns
returns c =
    let laws : Laws = record {
      cycle = record {
        reads = c.operands_are_there.ensures;
        cells = c.cells_have_two_parts.ensures;
        step = c.acts_keep_the_step_law.ensures.step;
        near = c.acts_keep_the_step_law.ensures.near;
      };
      words = c.words_split_in_one_way.ensures;
      residues = c.expected_residues_are_residues.ensures;
      entries = c.entries_keep_their_rules.ensures;
      operands = c.operands_are_in_their_types.ensures;
      initial = c.right_answers_stand_for_values.ensures.cells_at_first;
    } in
    record { ends = ends_are_read laws; outputs = outputs_are_read laws }
