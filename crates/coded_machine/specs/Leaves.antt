-- Leaves: what a run leaves of the machine, and of what is done with its rows.
use Rattle.std.specs.Prelude.{ℕ, ◌≡◌, false, List, [], ◌∷◌, ◌++◌, ℤ, Result, Err, length}
use Rattle.input_rows.specs.RowsOf.{RowsLeft}
use Rattle.coded_unit.specs.declared.call.Answer.{Answer}
use Rattle.op_graph.specs.Lists.{Lists}
use Rattle.signature_table.specs.Signatures.{Numbers}
use Rattle.coded_machine.specs.declared.cycle_end.CycleEnd.{CycleEnd}
use Rattle.coded_machine.specs.Runs.{outcome_over}
use Rattle.coded_machine.specs.State.{State}
use Rattle.coded_machine.specs.declared.rows.fault.RunFault.{RunFault}
use Rattle.coded_machine.specs.declared.rows.fault.RunFault.TheVariants as fault
use Rattle.coded_machine.specs.Moments.{Moment}
use Rattle.coded_machine.specs.RowRuns.{RunsRows}

-- the answers of the last cycle, and none before the first
abbrev pub last_answers : List (List Answer) → List Answer
last_answers [] = []
last_answers (answers ∷ []) = answers
last_answers (answers ∷ next ∷ cycles) = last_answers (next ∷ cycles)

-- The machine after a run with these cycles: its graph and its table are the same, its answers are those of the last cycle, it
-- counts the cycles that were released, and it is between two cycles.
pub record MachineAfter (g : Lists) (t : Numbers) (carried : List (List Answer)) (m : State) : Type 0 where
  pub graph : m.graph ≡ g
  pub table : m.table ≡ t
  pub answers : m.answers ≡ last_answers carried
  pub cycles : m.cycles ≡ length (outcome_over g t 0 carried).rows
  pub between : m.under_way ≡ false

-- What is kept after a run, unless a write failed: that of the rows before the run, and then of the rows that were released.
abbrev pub KeptAfter : (List (List ℤ) → Type 0) → (List (List ℤ) → Type 0) → List (List ℤ) → Result CycleEnd RunFault → Type 0
KeptAfter kept_before kept_after released (Err fault.Write) = Unit {0}
KeptAfter kept_before kept_after released result = (rows : List (List ℤ)) → kept_before rows → kept_after (rows ++ released)

-- What running a graph leaves of the log and the output, of the machine, and of what is kept of the released rows.
pub record Leaves (g : Lists) (t : Numbers) (left : RowsLeft) (text : ℕ → List ℤ → List ℕ) (before after : Moment)
    (kept_before kept_after : List (List ℤ) → Type 0) (m : State) (result : Result CycleEnd RunFault) : Type 0 where
  pub run : RunsRows g t left text before after result
  pub machine : MachineAfter g t run.cycles m
  pub kept : KeptAfter kept_before kept_after (outcome_over g t 0 run.cycles).rows result
