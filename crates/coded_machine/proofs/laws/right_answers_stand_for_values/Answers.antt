use Rattle.coded_machine.proofs.FirstCells.{all_below, cells_at_first}
use Rattle.coded_machine.proofs.HonestEnds.{stands_for}
use Rattle.coded_machine.proofs.Promised.{Laws}
use Rattle.coded_machine.proofs.laws.right_answers_stand_for_values.Goals as goal

pub returns : goal.returns
returns c =
    let laws : Laws = record {
      coded = record {
        words = c.words_split_in_one_way.ensures;
        steps = c.right_answers_keep_the_step_law.ensures.step;
        residues = c.expected_residues_are_residues.ensures;
      };
      typed = c.operands_are_in_their_types.ensures;
      entries = c.entries_keep_their_rules.ensures;
      cells = c.cells_have_two_parts.ensures;
      reads = c.operands_are_there.ensures;
    } in
    record {
      cycle = λ s values answers graph table few hold right whole. stands_for laws s values answers
          (all_below laws s.graph.profile s.table s.cycle table few) graph hold right whole;
      cells_at_first = λ g seed step graph. cells_at_first laws g seed step graph;
    }
