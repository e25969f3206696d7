-- FirstRows: the rows that a run released before the first wrong answer.
use Rattle.std.specs.Prelude.{ℤ, ◌≡◌, ◌≤◌, List, ◌++◌, length}
use Rattle.vcp_base.specs.Limits.{most_cycles}
use Rattle.coded_unit.specs.declared.call.Answer.{Answer}
use Rattle.op_graph.specs.Lists.{Lists}
use Rattle.op_graph.specs.Rules.{IsGraph}
use Rattle.op_graph.specs.GraphRun.{graph_run}
use Rattle.signature_table.specs.Signatures.{Numbers, IsTable}
use Rattle.coded_machine.specs.Calls.{AllRight}
use Rattle.coded_machine.specs.CycleEnds.{initial_words}
use Rattle.coded_machine.specs.Runs.{calls_over, outcome_over}
use Rattle.coded_machine.specs.RowRuns.{SomeCycles}

-- Where all answers in the first of these cycles are right, the rows that these released are the first of the graph's run on plain integers over
-- these rows of inputs, whatever the answers in the later cycles are.
abbrev pub FirstRowsFollow : Lists → Numbers → List (List ℤ) → List (List Answer) → Type 0
FirstRowsFollow g t rows cycles =
    (first rest : List (List Answer)) → cycles ≡ first ++ rest → AllRight (calls_over g t 0 (initial_words g t.seed) rows first) →
    (later : List (List ℤ)) × ((graph_run g rows).rows ≡ (outcome_over g t 0 first).rows ++ later)

-- so it is in every run, also where it was given up between two of its cycles
abbrev pub FirstRowsLaw : Type 0
FirstRowsLaw =
    (g : Lists) (t : Numbers) (rows : List (List ℤ)) (cycles : List (List Answer)) → IsGraph g → IsTable t → length rows ≤ most_cycles →
    SomeCycles g t 0 rows cycles → FirstRowsFollow g t rows cycles
