-- Laws: what the run of which the words are compared has to do with the one that verdicts are about.
use Rattle.std.specs.Prelude.{List, ℤ}
use Rattle.op_graph.specs.Lists.{Lists}
use Rattle.signature_table.specs.Signatures.{Numbers}
use Rattle.coded_machine.specs.CycleEnds.{initial_words}
use Rattle.fault_script.specs.Changes.{Acts}
use Rattle.fault_injector.specs.RunLaw.{RightRun, no_words}
use Rattle.verdict_tables.specs.AnswersOver.{run_answers}

-- its answers are the right ones to the calls with the changes, of which the run law says the values and the residues
abbrev pub AnswersAreRight : Type 0
AnswersAreRight =
    (t : Numbers) (g : Lists) (acts : Acts) (rows : List (List ℤ)) →
    RightRun t g acts 0 no_words (initial_words g t.seed) rows (run_answers t g acts rows)
