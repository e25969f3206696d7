-- Shown: the condition under which a `Printed` prints of a machine's run what a job's `Printing` defines.
use Rattle.std.specs.Prelude.{ℕ, ℤ, ◌≡◌, List, ◌++◌, None}
use Rattle.coded_unit.specs.declared.call.Answer.{Answer as UnitAnswer}
use Rattle.op_graph.specs.Lists.{Lists}
use Rattle.coded_machine.specs.declared.cycle_end.CycleEnd.{CycleEnd}
use Rattle.coded_machine.specs.declared.cycle_end.CycleEnd.TheVariants as cycle
use Rattle.coded_machine.specs.Calls.{AllRight}
use Rattle.coded_machine.specs.Runs.{AllCycles, outcome_over}
use Rattle.coded_machine.specs.State.{State}
use Rattle.coded_machine.specs.Leaves.{MachineAfter}
use Rattle.coded_machine.specs.RowRuns.{CameToEnd}
use Rattle.vcp_inputs.specs.Answer.{Subject}
use Rattle.vcp_inputs.specs.Printing.{Printing, ShownWords, last_part}
use Rattle.vcp_inputs.specs.Reports.{end_read, subject_outputs}
use Rattle.vcp_inputs.specs.RunKind.{Job, calls_of, numbers, run_read}
use Rattle.vcp_inputs.specs.Forms.{Code}
use Rattle.input_rows.specs.RowsOf.{RowsLeft}
use Rattle.vcp_core.specs.MachineRun.{IsThere}

-- the job of a run, by its parts
abbrev pub job_of : Subject → Code → RowsLeft → List ℕ → Printing → ShownWords → Job
job_of s code left name p words = record { subject = s; rows = left; rows_name = name; code = code; printing = p; words = words }

-- a job's run on a graph came to this end in these cycles, and left this machine, and this of what is kept of its rows
pub record RunCame {R : Type 0} (Keeps : R → List (List ℤ) → Type 0) (kept now : R) (j : Job) (g : Lists) (cycles : List (List UnitAnswer)) (m : State)
    (e : CycleEnd) : Type 0 where
  pub came : CameToEnd g (numbers j g) j.rows.rows cycles e
  pub all_taken : e ≡ cycle.Released → j.rows.refusal ≡ None
  pub machine : MachineAfter g (numbers j g) cycles m
  pub keeps : (rows : List (List ℤ)) → Keeps kept rows → Keeps now (rows ++ (outcome_over g (numbers j g) 0 cycles).rows)
  pub there : IsThere g e

-- What is printed first, of each row and last is what is printed of a job that is run on a graph, where this is kept before its first row;
-- and where all answers are right, the words that are shown are those that are meant.
pub record Shows {R : Type 0} (first : List (List ℕ) → List ℕ) (row : ℕ → List ℤ → List ℕ) (last : R → State → List (List ℕ) → CycleEnd → List ℕ)
    (Keeps : R → List (List ℤ) → Type 0) (kept : R) (j : Job) (g : Lists) : Type 0 where
  pub first_is : first (subject_outputs j.subject) ≡ j.printing.header
  pub row_is : row ≡ j.printing.row
  pub words_are : (cycles : List (List UnitAnswer)) → AllRight (calls_of j g cycles) → AllCycles g (numbers j g) 0 j.rows.rows cycles
      → j.words.read cycles ≡ j.words.meant j.rows.rows
  pub last_is : (now : R) (cycles : List (List UnitAnswer)) (m : State) (e : CycleEnd) → RunCame Keeps kept now j g cycles m e
      → last now m (subject_outputs j.subject) e ≡ last_part j.printing (subject_outputs j.subject) (run_read j g cycles) (end_read g e) j.rows.refusal
